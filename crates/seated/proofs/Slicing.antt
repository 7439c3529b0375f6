-- Slices that are put together.
use Rattle.std.proofs.Common.{◌≡◌, ℕ, ◌+◌, List, ◌++◌, sym, ap, ◌∙◌, append_assoc, append-nil}
use mathlib.Core.List.{IsPrefix}
use Rattle.items.specs.declared.item.Item.{Item}
use Rattle.items.specs.Entries.{steps_of}
use Rattle.items.proofs.Runs.{steps_of-none, steps_of-join}
use Rattle.log_seats.specs.Heads.{SeatIs}
use Rattle.seated.specs.Acts.{Acts, Sees, Slice}

prefix_on : (xs ys more zs : List Item) → IsPrefix xs ys → zs ≡ ys ++ more → IsPrefix xs zs
prefix_on xs ys more zs p e = (p.0 ++ more, sym (append_assoc xs p.0 more) ∙ ap (λ (l : List Item). l ++ more) p.1 ∙ sym e)

prefix_to : (xs ys zs : List Item) → IsPrefix xs ys → IsPrefix ys zs → IsPrefix xs zs
prefix_to xs ys zs p q = prefix_on xs ys q.0 zs p (sym q.1)

-- a slice of no step
pub none_made : (s s' : SeatIs) → Sees s s' → Slice s 0 s'
none_made s s' h =
    let made : s.made ≡ s.made ++ steps_of s.number 0 = sym (append-nil s.made) ∙ sym (ap (λ xs. s.made ++ xs) (steps_of-none s.number)) in
    record {
      its_seat = h.its_seat ∙ ap (λ (xs : List Item). record s { saw = s'.saw; made = xs }) made;
      begins = h.begins;
      legal = h.legal;
    }

-- a slice of steps that were added at once
pub some_made : (s : SeatIs) (before : List Item) (count : ℕ) (s' : SeatIs) → Acts s before (steps_of s.number count) s' → Slice s count s'
some_made s before count s' a =
    let saw : s'.saw ≡ before ++ steps_of s.number count = ap (λ (t : SeatIs). t.saw) a.its_seat in
    record {
      its_seat = a.its_seat ∙ ap (λ (xs : List Item). record s { saw = xs; made = s.made ++ steps_of s.number count }) (sym saw);
      begins = prefix_on s.saw before (steps_of s.number count) s'.saw a.found.begins saw;
      legal = a.legal;
    }

-- one slice after another
pub joined : (s : SeatIs) (j : ℕ) (s' : SeatIs) (k : ℕ) (s'' : SeatIs) → Slice s j s' → Slice s' k s'' → Slice s (j + k) s''
joined s j s' k s'' a b =
    let number : s'.number ≡ s.number = ap (λ (t : SeatIs). t.number) a.its_seat in
    let head : s''.head ≡ s.head = ap (λ (t : SeatIs). t.head) b.its_seat ∙ ap (λ (t : SeatIs). t.head) a.its_seat in
    let number' : s''.number ≡ s.number = ap (λ (t : SeatIs). t.number) b.its_seat ∙ number in
    let made : s''.made ≡ s.made ++ steps_of s.number (j + k) =
    ap (λ (t : SeatIs). t.made) b.its_seat ∙ ap (λ (n : ℕ). s'.made ++ steps_of n k) number ∙ ap (λ (t : SeatIs). t.made ++ steps_of s.number k) a.its_seat
    ∙ append_assoc s.made (steps_of s.number j) (steps_of s.number k) ∙ sym (ap (λ (xs : List Item). s.made ++ xs) (steps_of-join s.number j k)) in
    record {
      its_seat = λ i. record { head = head i; number = number' i; saw = s''.saw; made = made i };
      begins = prefix_to s.saw s'.saw s''.saw a.begins b.begins;
      legal = b.legal;
    }
