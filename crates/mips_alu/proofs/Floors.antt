-- An arithmetic shift to the right is the floor of a quotient.
use Rattle.std.proofs.Common.{◌≡◌, ℕ, ℤ, pos, negsuc, suc, ◌-◌, ◌*◌, ◌/◌, ◌^◌, ◌<◌, ◌≤◌, ◌+ℤ◌, ◌*ℤ◌, ◌≤ℤ◌, ◌<ℤ◌, ◌⊎◌, inl, inr, true, false, zero, neg_ℤ, nat_lt, w32, refl, ap, ◌∙◌, arith}
use Rattle.std.proofs.lemmas.Int.{ints, to_z_pos, to_z-of_z}
use Rattle.std.proofs.lemmas.Bool.{cases_lt}
use Rattle.std.proofs.lemmas.Nat.{shr_split, shr_le, pow_pos}
use Rattle.mips_alu.specs.Signed.{signed_value}
use Rattle.mips_alu.specs.Shifting.{shift_result}
use Rattle.mips_alu.specs.declared.shifting.ShiftKind.TheVariants.{RightArithmetic}

positive : (z s : ℤ) (n k : ℕ) → z ≡ pos n → s ≡ pos (n / 2 ^ k) → ((s *ℤ pos (2 ^ k)) ≤ℤ z) × (z <ℤ ((s +ℤ pos 1) *ℤ pos (2 ^ k)))
positive z s n k e f = rw (e, f) (omega (arith, ints, shr_split n k), omega (arith, ints, shr_split n k, pow_pos k))

up_one : (n : ℕ) → (negsuc n +ℤ pos 1) ≡ neg_ℤ (pos n)
up_one n = omega (arith, ints)

next_multiple : (q p : ℕ) → ((negsuc q +ℤ pos 1) *ℤ pos p) ≡ neg_ℤ (pos (q * p))
next_multiple zero p = omega (arith, ints)
next_multiple (suc n) p = rw (up_one (suc n)) refl

negative : (z s : ℤ) (n k : ℕ) → z ≡ negsuc n → s ≡ negsuc (n / 2 ^ k) → ((s *ℤ pos (2 ^ k)) ≤ℤ z) × (z <ℤ ((s +ℤ pos 1) *ℤ pos (2 ^ k)))
negative z s n k e f = rw (e, f) (omega (arith, ints, shr_split n k, pow_pos k), rw (next_multiple (n / 2 ^ k) (2 ^ k)) (omega (arith, ints, shr_split n k, pow_pos k)))

negative_value : (n : ℕ) → n < 2 ^ 31 → signed_value (2 ^ 32 - 1 - n) ≡ negsuc n
negative_value n h =
    let same : 2 ^ 32 - 1 - n ≡ 2 ^ 32 - suc n = omega arith in
    ap signed_value same ∙ to_z-of_z w32 (negsuc n) (omega (arith, ints))

-- the word after the shift, by cases on the sign
floor : (word k : ℕ) → word < 2 ^ 32 → k < 32 → ((signed_value (shift_result RightArithmetic word k) *ℤ pos (2 ^ k)) ≤ℤ signed_value word) × (signed_value word <ℤ ((signed_value (shift_result RightArithmetic word k) +ℤ pos 1) *ℤ pos (2 ^ k)))
floor word k p q = go (cases_lt word (2 ^ 31))
  where
    go : (word < 2 ^ 31) ⊎ (2 ^ 31 ≤ word) → ((signed_value (shift_result RightArithmetic word k) *ℤ pos (2 ^ k)) ≤ℤ signed_value word) × (signed_value word <ℤ ((signed_value (shift_result RightArithmetic word k) +ℤ pos 1) *ℤ pos (2 ^ k)))
    go (inl below) =
        let test : nat_lt word (2 ^ 31) ≡ true = grind arith in
        let after : signed_value (word / 2 ^ k) ≡ pos (word / 2 ^ k) = to_z_pos w32 (word / 2 ^ k) (omega (arith, shr_le word k)) in
        positive (signed_value word) (signed_value (shift_result RightArithmetic word k)) word k (to_z_pos w32 word below) (rw test after)
    go (inr above) =
        let test : nat_lt word (2 ^ 31) ≡ false = grind arith in
        let n : ℕ = 2 ^ 32 - 1 - word in
        let same : word ≡ 2 ^ 32 - 1 - n = omega arith in
        let before : signed_value word ≡ negsuc n = ap signed_value same ∙ negative_value n (omega arith) in
        let after : signed_value (2 ^ 32 - 1 - n / 2 ^ k) ≡ negsuc (n / 2 ^ k) = negative_value (n / 2 ^ k) (omega (arith, shr_le n k)) in
        negative (signed_value word) (signed_value (shift_result RightArithmetic word k)) n k before (rw test after)

pub floor_at_most : (word k : ℕ) → word < 2 ^ 32 → k < 32 → (signed_value (shift_result RightArithmetic word k) *ℤ pos (2 ^ k)) ≤ℤ signed_value word
floor_at_most word k p q = (floor word k p q).0

pub next_above : (word k : ℕ) → word < 2 ^ 32 → k < 32 → signed_value word <ℤ ((signed_value (shift_result RightArithmetic word k) +ℤ pos 1) *ℤ pos (2 ^ k))
next_above word k p q = (floor word k p q).1
