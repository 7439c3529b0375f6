-- A seat, call after call.
use Rattle.std.proofs.Common.{◌≡◌, ℕ, List, [], ◌∷◌, ◌++◌, refl, ap, sym, subst, ◌∙◌, append_assoc, append-nil}
use mathlib.Core.List.{IsPrefix}
use Rattle.items.specs.declared.item.Item.{Item}
use Rattle.log_seats.specs.Heads.{SeatIs}
use Rattle.seated.specs.Acts.{Acts, Sees}
use Rattle.cell.specs.declared.cell.Front.{Front}
use Rattle.cell.specs.declared.seat.Seat.{Seat}
use Rattle.cell.specs.Sitting.{Lasts, Happens}
use Rattle.cell.specs.Slices.{Slice}
use Rattle.host.specs.declared.requests.Reply.{Reply}
use Rattle.host.specs.declared.requests.Reply.TheVariants.{Registers, Bytes, Done}
use Rattle.host.specs.declared.requests.Request.{Request}
use Rattle.host.specs.declared.requests.Request.TheVariants.{Regs, Poke, Read, Write, Break, Clear}
use Rattle.host.specs.Debugging.{Did}
use Rattle.debug_session.specs.Goes.{Goes}

prefix_to : (xs ys zs : List Item) → IsPrefix xs ys → IsPrefix ys zs → IsPrefix xs zs
prefix_to xs ys zs p q = (p.0 ++ q.0, sym (append_assoc xs p.0 q.0) ∙ ap (λ (l : List Item). l ++ q.0) p.1 ∙ q.1)

prefix_on : (xs ys more zs : List Item) → IsPrefix xs ys → zs ≡ ys ++ more → IsPrefix xs zs
prefix_on xs ys more zs p e = (p.0 ++ more, sym (append_assoc xs p.0 more) ∙ ap (λ (l : List Item). l ++ more) p.1 ∙ sym e)

-- where it stays as it is
pub goes_nowhere : (s : SeatIs) → Goes s s
goes_nowhere s = record {
  mine = [];
  its_seat = ap (λ (xs : List Item). record s { saw = s.saw; made = xs }) (sym (append-nil s.made));
  begins = ([], append-nil s.saw);
  legal = λ legal. legal;
}

pub goes_same : (s s' : Seat) → s' ≡ s → Goes s.seat s'.seat
goes_same s s' e = subst (λ (t : Seat). Goes s.seat t.seat) (sym e) (goes_nowhere s.seat)

-- where it has looked
pub goes_seen : (s s' : SeatIs) → Sees s s' → Goes s s'
goes_seen s s' h = record {
  mine = [];
  its_seat = h.its_seat ∙ ap (λ (xs : List Item). record s { saw = s'.saw; made = xs }) (sym (append-nil s.made));
  begins = h.begins;
  legal = λ _. h.legal;
}

-- where it has made items
pub goes_acted : (s : SeatIs) (before mine : List Item) (s' : SeatIs) → Acts s before mine s' → Goes s s'
goes_acted s before mine s' a =
    let saw : s'.saw ≡ before ++ mine = ap (λ (t : SeatIs). t.saw) a.its_seat in
    record {
      mine = mine;
      its_seat = a.its_seat ∙ ap (λ (xs : List Item). record s { saw = xs; made = s.made ++ mine }) (sym saw);
      begins = prefix_on s.saw before mine s'.saw a.found.begins saw;
      legal = λ _. a.legal;
    }

-- where it has made steps
pub goes_sliced : (s : SeatIs) (count : ℕ) (s' : SeatIs) → Slice s count s' → Goes s s'
goes_sliced s count s' h = record { mine = h.mine; its_seat = h.its_seat; begins = h.begins; legal = λ _. h.legal }

-- one call after another
pub goes_on : (s s' s'' : SeatIs) → Goes s s' → Goes s' s'' → Goes s s''
goes_on s s' s'' a b =
    let number : s''.number ≡ s.number = ap (λ (t : SeatIs). t.number) b.its_seat ∙ ap (λ (t : SeatIs). t.number) a.its_seat in
    let head : s''.head ≡ s.head = ap (λ (t : SeatIs). t.head) b.its_seat ∙ ap (λ (t : SeatIs). t.head) a.its_seat in
    let made : s''.made ≡ s.made ++ (a.mine ++ b.mine) =
    ap (λ (t : SeatIs). t.made) b.its_seat ∙ ap (λ (t : SeatIs). t.made ++ b.mine) a.its_seat ∙ append_assoc s.made a.mine b.mine in
    record {
      mine = a.mine ++ b.mine;
      its_seat = λ i. record { head = head i; number = number i; saw = s''.saw; made = made i };
      begins = prefix_to s.saw s'.saw s''.saw a.begins b.begins;
      legal = λ legal. b.legal (a.legal legal);
    }

-- where a request was done
pub goes_done : {S : Type 0} (front : Front S) (seat : Seat) (request : Request) (seat' : Seat) (reply : Reply) → Did front seat request seat' reply → Goes seat.seat seat'.seat
goes_done front seat Regs seat' (Registers words) h = goes_seen seat.seat seat'.seat h.sees
goes_done front seat Regs seat' (Bytes bytes) h = absurd h
goes_done front seat Regs seat' Done h = absurd h
goes_done front seat (Poke register value) seat' (Registers words) h = absurd h
goes_done front seat (Poke register value) seat' (Bytes bytes) h = absurd h
goes_done front seat (Poke register value) seat' Done h = goes_acted seat.seat h.before _ seat'.seat h.acts
goes_done front seat (Read address count) seat' (Registers words) h = absurd h
goes_done front seat (Read address count) seat' (Bytes bytes) h = goes_seen seat.seat seat'.seat h.sees
goes_done front seat (Read address count) seat' Done h = absurd h
goes_done front seat (Write address bytes) seat' (Registers words) h = absurd h
goes_done front seat (Write address bytes) seat' (Bytes read) h = absurd h
goes_done front seat (Write address bytes) seat' Done h = goes_acted seat.seat h.before _ seat'.seat h.acts
goes_done front seat (Break address) seat' (Registers words) h = absurd h
goes_done front seat (Break address) seat' (Bytes bytes) h = absurd h
goes_done front seat (Break address) seat' Done h = goes_seen seat.seat seat'.seat h
goes_done front seat (Clear address) seat' (Registers words) h = absurd h
goes_done front seat (Clear address) seat' (Bytes bytes) h = absurd h
goes_done front seat (Clear address) seat' Done h = goes_seen seat.seat seat'.seat h

pub lasts_nowhere : (s s' : Seat) → s' ≡ s → Lasts s s'
lasts_nowhere s s' e = subst (λ (t : Seat). Lasts s t) (sym e) (record { same_truth = refl; held = λ held. held })

pub lasts_on : (s s' s'' : Seat) → Lasts s s' → Lasts s' s'' → Lasts s s''
lasts_on s s' s'' a b = record { same_truth = b.same_truth ∙ a.same_truth; held = λ holds. a.held (b.held holds) }
