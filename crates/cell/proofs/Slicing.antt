-- Slices, which are put together.
use Rattle.std.proofs.Common.{◌≡◌, ℕ, zero, suc, ◌+◌, List, [], ◌∷◌, ◌++◌, refl, sym, ap, subst, ◌∙◌, append_assoc, append-nil, zero-add, replicate, arith}
use mathlib.Core.List.{IsPrefix}
use Rattle.items.specs.declared.item.Item.{Item}
use Rattle.items.specs.declared.item.What.TheVariants as what
use Rattle.items.specs.Entries.{steps_of, step_by}
use Rattle.log_seats.specs.Heads.{SeatIs}
use Rattle.log_seats.specs.Legal.{Legal}
use Rattle.seated.specs.Acts.{Acts, Sees}
use Rattle.cell.specs.Inputs.{bytes_in}
use Rattle.cell.specs.Slices.{Slice, steps_in, AreOfSlice}

steps_join : (xs ys : List Item) → steps_in (xs ++ ys) ≡ steps_in xs + steps_in ys
steps_join [] ys = omega arith
steps_join (x ∷ xs) ys = omega (arith, steps_join xs ys)

kinds_join : (xs ys : List Item) → AreOfSlice xs → AreOfSlice ys → AreOfSlice (xs ++ ys)
kinds_join [] ys a b = b
kinds_join (x ∷ xs) ys a b = (a.0, kinds_join xs ys a.1 b)

copies_steps : (seat n : ℕ) → steps_in (replicate n (step_by seat)) ≡ n
copies_steps seat zero = refl
copies_steps seat (suc n) = omega (arith, copies_steps seat n)

copies_kinds : (seat n : ℕ) → AreOfSlice (replicate n (step_by seat))
copies_kinds seat zero = tt
copies_kinds seat (suc n) = (tt, copies_kinds seat n)

copies_bytes : (seat n : ℕ) → bytes_in (replicate n (step_by seat)) ≡ []
copies_bytes seat zero = refl
copies_bytes seat (suc n) = copies_bytes seat n

pub steps_in_steps : (seat n : ℕ) → steps_in (steps_of seat n) ≡ n
unfolding steps_of
steps_in_steps seat n = copies_steps seat n

pub steps_are_of_slice : (seat n : ℕ) → AreOfSlice (steps_of seat n)
unfolding steps_of
steps_are_of_slice seat n = copies_kinds seat n

pub no_byte_in_steps : (seat n : ℕ) → bytes_in (steps_of seat n) ≡ []
unfolding steps_of
no_byte_in_steps seat n = copies_bytes seat n

prefix_on : (xs ys more zs : List Item) → IsPrefix xs ys → zs ≡ ys ++ more → IsPrefix xs zs
prefix_on xs ys more zs p e = (p.0 ++ more, sym (append_assoc xs p.0 more) ∙ ap (λ (l : List Item). l ++ more) p.1 ∙ sym e)

prefix_to : (xs ys zs : List Item) → IsPrefix xs ys → IsPrefix ys zs → IsPrefix xs zs
prefix_to xs ys zs p q = prefix_on xs ys q.0 zs p (sym q.1)

-- where nothing is added
pub none_made : (s s' : SeatIs) → Sees s s' → Slice s 0 s'
none_made s s' h = record {
  mine = [];
  its_seat = h.its_seat ∙ ap (λ (xs : List Item). record s { saw = s'.saw; made = xs }) (sym (append-nil s.made));
  begins = h.begins;
  legal = h.legal;
  steps_are = refl;
  kinds = tt;
}

-- and where the seat stays as it is
pub nothing_made : (s : SeatIs) → Legal s.saw s.number s.saw s.made → Slice s 0 s
nothing_made s legal = none_made s s (record { its_seat = refl; begins = ([], append-nil s.saw); legal = legal })

-- where items of a slice are added at once
pub acted : (s : SeatIs) (before mine : List Item) (count : ℕ) (s' : SeatIs) → steps_in mine ≡ count → AreOfSlice mine → Acts s before mine s' → Slice s count s'
acted s before mine count s' steps kinds a =
    let saw : s'.saw ≡ before ++ mine = ap (λ (t : SeatIs). t.saw) a.its_seat in
    record {
      mine = mine;
      its_seat = a.its_seat ∙ ap (λ (xs : List Item). record s { saw = xs; made = s.made ++ mine }) (sym saw);
      begins = prefix_on s.saw before mine s'.saw a.found.begins saw;
      legal = a.legal;
      steps_are = steps;
      kinds = kinds;
    }

-- steps
pub steps_made : (s : SeatIs) (before : List Item) (count : ℕ) (s' : SeatIs) → Acts s before (steps_of s.number count) s' → Slice s count s'
steps_made s before count s' a = acted s before (steps_of s.number count) count s' (steps_in_steps s.number count) (steps_are_of_slice s.number count) a

-- a byte of input
pub byte_made : (s : SeatIs) (before : List Item) (byte : ℕ) (s' : SeatIs) → Acts s before (record { seat = s.number; what = what.In byte } ∷ []) s' → Slice s 0 s'
byte_made s before byte s' a = acted s before (record { seat = s.number; what = what.In byte } ∷ []) 0 s' refl (tt, tt) a

-- one slice after another
pub joined : (s : SeatIs) (j : ℕ) (s' : SeatIs) (k : ℕ) (s'' : SeatIs) → Slice s j s' → Slice s' k s'' → Slice s (j + k) s''
joined s j s' k s'' a b =
    let number : s''.number ≡ s.number = ap (λ (t : SeatIs). t.number) b.its_seat ∙ ap (λ (t : SeatIs). t.number) a.its_seat in
    let head : s''.head ≡ s.head = ap (λ (t : SeatIs). t.head) b.its_seat ∙ ap (λ (t : SeatIs). t.head) a.its_seat in
    let made : s''.made ≡ s.made ++ (a.mine ++ b.mine) =
    ap (λ (t : SeatIs). t.made) b.its_seat ∙ ap (λ (t : SeatIs). t.made ++ b.mine) a.its_seat ∙ append_assoc s.made a.mine b.mine in
    record {
      mine = a.mine ++ b.mine;
      its_seat = λ i. record { head = head i; number = number i; saw = s''.saw; made = made i };
      begins = prefix_to s.saw s'.saw s''.saw a.begins b.begins;
      legal = b.legal;
      steps_are = omega (arith, steps_join a.mine b.mine, a.steps_are, b.steps_are);
      kinds = kinds_join a.mine b.mine a.kinds b.kinds;
    }

pub head_stays : (s s' : SeatIs) (count : ℕ) → Slice s count s' → s'.head ≡ s.head
head_stays s s' count a = ap (λ (t : SeatIs). t.head) a.its_seat

-- and one after a slice of no step
pub joined_none : (s s' : SeatIs) (k : ℕ) (s'' : SeatIs) → Slice s 0 s' → Slice s' k s'' → Slice s k s''
joined_none s s' k s'' a b = subst (λ (n : ℕ). Slice s n s'') (zero-add k) (joined s 0 s' k s'' a b)
