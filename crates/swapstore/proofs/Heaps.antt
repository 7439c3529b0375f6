-- The numbers in a heap that has the lowest on top.
use Rattle.std.proofs.Common.{ℕ, ◌≡◌, ◌+◌, ◌≤◌, List, ◌∷◌, arith, map, false}
use Rattle.std.proofs.lemmas.Bool.Decides.{nat_tests}
use Rattle.std.specs.List.{All}
use Rattle.std.specs.List.Sorted.{IsPermutation}
use Rattle.std.specs.BinaryHeap.{IsUpperBound}
use Rattle.std.specs.Ordering.{nat_cmp, is_lt}
use Rattle.std.specs.declared.cmp.Reverse.{Reverse}
use Rattle.std.proofs.lemmas.List.Sorted.{IsPermutation-map, IsPermutation-sym, All-permutation}
use Rattle.std.proofs.lemmas.List.Elements.{All-from_recursion, All-weaker, All-cons, All-map}
use Rattle.frames.specs.Counts.{one_at, count_of}
use Rattle.swapstore.specs.Slots.{number_of, lowest_first}
use Rattle.frames.proofs.Counting.{count_cons, count_permutation}

pub taken_counts : (k : ℕ) (old new : List (Reverse ℕ)) (top : Reverse ℕ) → IsPermutation old (top ∷ new) → count_of k (map number_of old) ≡ count_of k (map number_of new) + one_at k top.0
taken_counts k old new top moved =
    let same = count_permutation k (map number_of old) (top.0 ∷ map number_of new) (IsPermutation-map number_of old (top ∷ new) moved) in
    omega (arith, same, count_cons k top.0 (map number_of new))

pub given_counts : (k : ℕ) (old new : List (Reverse ℕ)) (slot : ℕ) → IsPermutation (record { 0 = slot } ∷ old) new → count_of k (map number_of new) ≡ count_of k (map number_of old) + one_at k slot
given_counts k old new slot moved =
    let same = count_permutation k (slot ∷ map number_of old) (map number_of new) (IsPermutation-map number_of (record { 0 = slot } ∷ old) new moved) in
    omega (arith, same, count_cons k slot (map number_of old))

not_above : (a b : ℕ) → is_lt (nat_cmp b a) ≡ false → a ≤ b
not_above a b h = grind (arith, nat_tests)

pub top_is_lowest : (old new : List (Reverse ℕ)) (top : Reverse ℕ) → IsPermutation old (top ∷ new) → IsUpperBound lowest_first top new → All (λ other. top.0 ≤ other) (map number_of old)
top_is_lowest old new top moved bound =
    let P : Reverse ℕ → Type 0 = λ slot. top.0 ≤ slot.0 in
    let below : All P new = All-weaker (λ y. is_lt (nat_cmp y.0 top.0) ≡ false) P (λ y h. not_above top.0 y.0 h) new (All-from_recursion _ new bound) in
    let all : All P old = All-permutation P (top ∷ new) old (IsPermutation-sym old (top ∷ new) moved) (All-cons P top new (omega arith) below) in
    All-map (λ other. top.0 ≤ other) number_of old all
