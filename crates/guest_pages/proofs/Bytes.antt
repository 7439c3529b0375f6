-- Bytes that are all zero.
use Rattle.std.proofs.Common.{ℕ, zero, suc, ◌≡◌, ◌-◌, inl, inr, length, replicate, slice_index, drop, refl, ap, ◌∙◌, arith}
use Rattle.std.proofs.lemmas.Bool.{cases_lt}
use Rattle.std.proofs.lemmas.List.{length-replicate, get_or-replicate, get_or_past, drop-replicate}
use Rattle.byteorder.specs.Endian.{little_from, little_number}
use Rattle.word32.specs.Zeros.{zeros}

pub zeros_length : (n : ℕ) → length (zeros n) ≡ n
unfolding zeros
zeros_length n = length-replicate n 0

-- each byte is zero, past the end too
zero_at : (n i : ℕ) → slice_index (replicate n 0) i ≡ 0
zero_at n i = elim (cases_lt i n) [ inl l ↦ get_or-replicate n i 0 0 l | inr g ↦ get_or_past (replicate n 0) i 0 (omega (arith, length-replicate {A = ℕ} n 0)) ]

zero_number : (i n m : ℕ) → little_from i n (replicate m 0) ≡ 0
zero_number i zero m = refl
zero_number i (suc n) m = omega (arith, zero_at m i, zero_number (suc i) n m)

pub byte_of_zeros : (m i : ℕ) → slice_index (zeros m) i ≡ 0
unfolding zeros
byte_of_zeros m i = zero_at m i

pub number_of_zeros : (n m i : ℕ) → little_number n (drop i (zeros m)) ≡ 0
unfolding zeros
number_of_zeros n m i = ap (little_number n) (drop-replicate i m 0) ∙ zero_number 0 n (m - i)
