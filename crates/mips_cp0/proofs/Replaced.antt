-- Bits that are replaced, set and cleared, seen through another mask.
use Rattle.std.proofs.Common.{ℕ, ◌≡◌, ◌-◌, ◌^◌, ◌<◌, false, sym, ◌∙◌, ap, arith, bit_and, bit_or}
use Rattle.std.proofs.lemmas.Bool.Decides.{nat_tests}
use Rattle.std.proofs.lemmas.Nat.{and_le_l, and_le_r, and_comm, and_assoc, and_or_self, and_or_apart, and-not, or_comm, or_disjoint}
use Rattle.std.proofs.lemmas.Nat.Bits.{and_pow, bit_at-lt}
use Rattle.bitflags.proofs.BitFacts.{without-gone}
use Rattle.mips_cp0.specs.Bits.{has_bits, with_bits, without_bits, replaced_bits}

-- bits that were cleared are gone from each part of the mask
cleared : (mask part word : ℕ) → mask < 2 ^ 32 → bit_and mask part ≡ part → bit_and (without_bits mask word) part ≡ 0
cleared mask part word fits within =
    let rest = without_bits mask word in
    ap (bit_and rest) (sym within)
    ∙ sym (and_assoc part rest mask)
    ∙ ap (λ n. bit_and n part) (without-gone 32 word mask fits)
    ∙ omega (arith, and_le_l 0 part)

-- a part of the mask has the new bits
pub replaced_taken : (mask part bits word : ℕ) → mask < 2 ^ 32 → bit_and mask part ≡ part → bit_and (replaced_bits mask bits word) part ≡ bit_and bits part
replaced_taken mask part bits word fits within =
    let rest = without_bits mask word in
    let new = bit_and bits mask in
    ap (λ n. bit_and n part) (or_comm rest new)
    ∙ and_or_apart part new rest (cleared mask part word fits within)
    ∙ and_assoc part bits mask
    ∙ ap (bit_and bits) within

-- bits that are not cleared stay
pub without_kept : (mask other word : ℕ) → mask < 2 ^ 32 → other < 2 ^ 32 → bit_and mask other ≡ 0 → bit_and (without_bits mask word) other ≡ bit_and word other
without_kept mask other word fits small apart =
    let stays : bit_and (0xffffffff - mask) other ≡ other = omega (arith, and-not 32 mask other fits small, apart) in
    and_assoc other word (0xffffffff - mask) ∙ ap (bit_and word) stays

-- bits that no part of the mask has stay
pub replaced_kept : (mask other bits word : ℕ) → mask < 2 ^ 32 → other < 2 ^ 32 → bit_and mask other ≡ 0 → bit_and (replaced_bits mask bits word) other ≡ bit_and word other
replaced_kept mask other bits word fits small apart =
    let new = bit_and bits mask in
    let none : bit_and new other ≡ 0 = and_assoc other bits mask ∙ ap (bit_and bits) apart ∙ omega (arith, and_le_r bits 0) in
    and_or_apart other (without_bits mask word) new none ∙ without_kept mask other word fits small apart

-- bit 1, where it was clear, set and cleared again
pub without_with : (word : ℕ) → word < 2 ^ 32 → has_bits 0x2 word ≡ false → without_bits 0x2 (with_bits 0x2 word) ≡ word
without_with word small clear =
    let bit = and_pow word 1 in
    let none : bit_and word 2 ≡ 0 = grind (arith, nat_tests, bit, clear, bit_at-lt word 1) in
    let sum = or_disjoint word 2 none in
    let set = and_or_self 2 word in
    let split = and-not 32 2 (bit_or word 2) (omega arith) (omega (arith, sum, bit, none)) in
    and_comm (bit_or word 2) (0xffffffff - 2) ∙ omega (arith, split, sum, set, and_comm 2 (bit_or word 2))
