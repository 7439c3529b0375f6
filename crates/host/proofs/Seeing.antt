-- A seat that sees more of a log, call after call.
use Rattle.std.proofs.Common.{◌≡◌, ℕ, List, [], ◌∷◌, ◌++◌, ap, sym, subst, ◌∙◌, append_assoc}
use mathlib.Core.List.{IsPrefix}
use Rattle.items.specs.declared.item.Item.{Item}
use Rattle.items.specs.Items.{own}
use Rattle.log_seats.specs.Heads.{SeatIs}
use Rattle.seated.specs.Acts.{Acts, Sees}
use Rattle.cell.specs.declared.cell.Front.{Front}
use Rattle.cell.specs.declared.cell.Cell.{Cell}
use Rattle.cell.specs.declared.seat.Seat.{Seat}
use Rattle.cell.specs.Sitting.{Happens}
use Rattle.items.specs.declared.item.What.{What}
use Rattle.host.specs.declared.requests.Request.TheVariants.{Read}
use Rattle.host.specs.declared.requests.DebugError.TheVariants as error
use Rattle.host.specs.declared.stops.Stop.{Stop}
use Rattle.host.specs.declared.stops.Stop.TheVariants as stop
use Rattle.host.specs.Evictions.{WhyLacking}
use Rattle.host.specs.Debugging.{WhyRefused}

prefix_to : (xs ys zs : List Item) → IsPrefix xs ys → IsPrefix ys zs → IsPrefix xs zs
prefix_to xs ys zs p q = (p.0 ++ q.0, sym (append_assoc xs p.0 q.0) ∙ ap (λ (l : List Item). l ++ q.0) p.1 ∙ q.1)

pub sees_on : (s s' s'' : SeatIs) → Sees s s' → Sees s' s'' → Sees s s''
sees_on s s' s'' a b = record {
  its_seat = b.its_seat ∙ ap (λ (t : SeatIs). record t { saw = s''.saw }) a.its_seat;
  begins = prefix_to s.saw s'.saw s''.saw a.begins b.begins;
  legal = b.legal;
}

-- items that are added after the seat has seen more
acts_after : (s s' : SeatIs) (before mine : List Item) (s'' : SeatIs) → Sees s s' → Acts s' before mine s'' → Acts s before mine s''
acts_after s s' before mine s'' seen a =
    let number : s'.number ≡ s.number = ap (λ (t : SeatIs). t.number) seen.its_seat in
    let made : s'.made ≡ s.made = ap (λ (t : SeatIs). t.made) seen.its_seat in
    record {
      found = record {
        begins = prefix_to s.saw s'.saw before seen.begins a.found.begins;
        own_items = ap (λ (k : ℕ). own k before) (sym number) ∙ a.found.own_items ∙ made;
      };
      its_seat = a.its_seat ∙ ap (λ (t : SeatIs). record t { saw = before ++ mine; made = t.made ++ mine }) seen.its_seat;
      legal = a.legal;
    }

happens_after : {S : Type 0} (front : Front S) (s s' : Seat) (i : Item) (s'' : Seat) → Sees s.seat s'.seat → Happens front s' i s'' → Happens front s i s''
happens_after front s s' i s'' seen h = record { before = h.before; acts = acts_after s.seat s'.seat h.before (i ∷ []) s''.seat seen h.acts; accepted = h.accepted }

-- the same of an item of the seat itself
pub happens_later : {S : Type 0} (front : Front S) (s s' : Seat) (what : What) (s'' : Seat) → Sees s.seat s'.seat → Happens front s' (record { seat = s'.seat.number; what = what }) s'' → Happens front s (record { seat = s.seat.number; what = what }) s''
happens_later front s s' what s'' seen h =
    let number : s'.seat.number ≡ s.seat.number = ap (λ (t : SeatIs). t.number) seen.its_seat in
    subst (λ (n : ℕ). Happens front s (record { seat = n; what = what }) s'') number (happens_after front s s' (record { seat = s'.seat.number; what = what }) s'' seen h)

-- a page that is not there is no other reason why bytes are not read
pub lacks_read : {S : Type 0} (cells : List (Cell S)) (front : Front S) (address count : ℕ) (s : Seat) (why : Stop) → WhyLacking cells why → WhyRefused front (Read address count) s (error.Stop why)
lacks_read cells front address count s stop.NoFrame is = tt
lacks_read cells front address count s stop.NoSwap is = tt
lacks_read cells front address count s stop.SwapRead is = tt
lacks_read cells front address count s stop.SwapDamaged is = tt
lacks_read cells front address count s stop.Memory is = tt
lacks_read cells front address count s stop.LogFull is = is
