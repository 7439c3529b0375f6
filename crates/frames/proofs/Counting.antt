-- Lemmas on counts, for this crate and those above.
use Rattle.std.proofs.Common.{ℕ, ◌≡◌, ◌+◌, ◌<◌, ◌≤◌, List, [], ◌∷◌, ◌++◌, length, get_or, set, zero, suc, arith, sym, ◌∙◌, ap, zero-add, subst, inl, inr}
use Rattle.std.proofs.lemmas.Bool.Decides.{nat_tests, eqb_tells}
use Rattle.std.specs.List.{range_with_len, remove, Contains}
use Rattle.std.specs.List.Sorted.{IsPermutation}
use Rattle.std.proofs.lemmas.List.Sums.{sum_by_push, sum_by-append, sum_by-cons, sum_by-set, sum_by-remove, get_or-le-sum_by}
use Rattle.std.proofs.lemmas.List.Sorted.{sum_by-IsPermutation}
use Rattle.frames.specs.Counts.{one_at, count_of, below}

-- ---- one number

pub one_same : (k : ℕ) → one_at k k ≡ 1
one_same k = grind (arith, nat_tests)

pub one_other : (k n : ℕ) → (n ≡ k → ⊥) → one_at k n ≡ 0
one_other k n h = grind (arith, nat_tests)

-- ---- lists

pub count_one : (k n : ℕ) → count_of k (n ∷ []) ≡ one_at k n
count_one k n = zero-add (one_at k n)

pub count_cons : (k n : ℕ) (ns : List ℕ) → count_of k (n ∷ ns) ≡ one_at k n + count_of k ns
count_cons k n ns = sum_by-cons (one_at k) n ns

pub count_append : (k : ℕ) (ms ns : List ℕ) → count_of k (ms ++ ns) ≡ count_of k ms + count_of k ns
count_append k ms ns = sum_by-append (one_at k) ms ns

pub count_push : (k : ℕ) (ns : List ℕ) (n : ℕ) → count_of k (ns ++ n ∷ []) ≡ count_of k ns + one_at k n
count_push k ns n = sum_by_push (one_at k) ns n

pub count_set : (k : ℕ) (ns : List ℕ) (i n : ℕ) → i < length ns → count_of k (set ns i n) + one_at k (get_or ns i 0) ≡ count_of k ns + one_at k n
count_set k ns i n h = sum_by-set (one_at k) ns i n 0 h

pub count_remove : (k : ℕ) (ns : List ℕ) (i : ℕ) → i < length ns → count_of k (remove ns i) + one_at k (get_or ns i 0) ≡ count_of k ns
count_remove k ns i h = sum_by-remove (one_at k) ns i 0 h

pub count_permutation : (k : ℕ) (ms ns : List ℕ) → IsPermutation ms ns → count_of k ms ≡ count_of k ns
count_permutation k ms ns h = sym (sum_by-IsPermutation (one_at k) ms ns h)

-- ---- where a number stands

contains_later : (k n : ℕ) (ns : List ℕ) → Contains ns k → Contains (n ∷ ns) k
contains_later k n ns (i, h, e) = (suc i, omega arith, e)

pub counted_stands : (k : ℕ) (ns : List ℕ) → 0 < count_of k ns → Contains ns k
counted_stands k [] h = absurd (omega arith)
counted_stands k (n ∷ ns) h =
    elim (eqb_tells n k) [
      | inl same ↦ (0, omega arith, same.1)
      | inr other ↦
          let none : one_at k n ≡ 0 = one_other k n other.1 in
          let rest : 0 < count_of k ns = omega (arith, count_cons k n ns) in
          contains_later k n ns (counted_stands k ns rest)
    ]

pub standing_counts : (k : ℕ) (ns : List ℕ) → Contains ns k → 0 < count_of k ns
standing_counts k ns (i, h, e) =
    let one : one_at k (get_or ns i k) ≡ 1 = ap (one_at k) e ∙ one_same k in
    omega (arith, get_or-le-sum_by (one_at k) ns i k h)

-- ---- the numbers below a total

pub below_yes : (k n : ℕ) → k < n → below k n ≡ 1
below_yes k n h = grind (arith, nat_tests)

pub below_no : (k n : ℕ) → n ≤ k → below k n ≡ 0
below_no k n h = grind (arith, nat_tests)

pub below_none : (k : ℕ) → below k 0 ≡ 0
below_none k = grind (arith, nat_tests)

pub below_more : (k n : ℕ) → below k (n + 1) ≡ below k n + one_at k n
below_more k n = grind (arith, nat_tests)

counted_from : (k a n : ℕ) → count_of k (range_with_len a n) + below k a ≡ below k (a + n)
counted_from k a zero = grind (arith, nat_tests)
counted_from k a (suc n) = let e : a + 1 + n ≡ a + suc n = omega arith in
    let more : below k (a + 1) ≡ below k a + one_at k a = below_more k a in
    let rest : count_of k (range_with_len (a + 1) n) + below k (a + 1) ≡ below k (a + suc n) = subst (λ (t : ℕ). count_of k (range_with_len (a + 1) n) + below k (a + 1) ≡ below k t) e (counted_from k (a + 1) n) in
    omega (arith, count_cons k a (range_with_len (a + 1) n))

pub count_range : (k n : ℕ) → count_of k (range_with_len 0 n) ≡ below k n
count_range k n = let e : 0 + n ≡ n = omega arith in
    let whole : count_of k (range_with_len 0 n) + below k 0 ≡ below k n = subst (λ (t : ℕ). count_of k (range_with_len 0 n) + below k 0 ≡ below k t) e (counted_from k 0 n) in
    omega (arith, below_none k)
