-- Printed numbers are within their ranges, and a printed target leads back to its offset or index.
use Rattle.std.proofs.Common.{◌≡◌, ℕ, ◌+◌, ◌-◌, ◌*◌, ◌/◌, ◌%◌, ◌^◌, ◌<◌, ◌≤◌, inl, inr, suc, pos, negsuc, true, false, ◌==◌, nat_lt, nat_le, refl, arith, Ok}
use Rattle.std.proofs.lemmas.Bool.Decides.{nat_tests}
use Rattle.std.proofs.lemmas.Bool.{lt-ltb}
use Rattle.word32.specs.Sign.{sign_extended_half}
use Rattle.mips_instr.specs.Operands.{signed_half}
use Rattle.mips_instr.specs.Targets.{slot_address, branch_target, jump_target}
use Rattle.masm_lines.specs.Ranges.{bits_within, signed_half_bits}
use Rattle.masm.specs.Meanings.{words_between, branch_offset, jump_index}
use Rattle.masm.proofs.PrintedNumbers.{half_or_more, at_least}

-- the test of a bound
within : (n greatest : ℕ) → n ≤ greatest → nat_le n greatest ≡ true
within n greatest h = grind (arith, nat_tests)

-- a natural number up to the greatest of a range is in it
pub natural_in_range : (width least greatest n : ℕ) → n ≤ greatest → bits_within width least greatest (pos n) ≡ Ok n
unfolding bits_within
natural_in_range width least greatest n h =
    let natural : nat_lt n 0 ≡ false = grind (arith, nat_tests) in
    rw (natural, within n greatest h) refl

-- a negative half-word is in range
negative_in_range : (m n : ℕ) → suc m ≤ 32768 → n ≡ 2 ^ 16 - suc m → signed_half_bits (negsuc m) ≡ Ok n
unfolding bits_within
negative_in_range m n h e = rw (within (suc m) 32768 h, e) refl

-- each signed half-word is in range
pub half_in_range : (n : ℕ) → n < 2 ^ 16 → signed_half_bits (signed_half n) ≡ Ok n
half_in_range n h = elim (half_or_more n) [
  | inl less ↦ rw (lt-ltb n 32768 less) (natural_in_range 16 32768 32767 n (omega arith))
  | inr more ↦ rw (at_least n more) (negative_in_range (2 ^ 16 - suc n) n (omega arith) (omega arith))
]

-- a branch to an address from its slot on
forward : (slot target n : ℕ) → slot ≤ target → (target - slot) / 4 ≡ n → n < 2 ^ 15 → words_between slot target ≡ Ok n
unfolding words_between
forward slot target n order is small = rw (within slot target order, is, lt-ltb n (2 ^ 15) small) refl

-- a branch to an address before its slot
backward : (slot target n : ℕ) → target < slot → (slot - target) / 4 ≤ 2 ^ 15 → (2 ^ 16 - (slot - target) / 4) % 2 ^ 16 ≡ n → words_between slot target ≡ Ok n
unfolding words_between
backward slot target n order small is =
    let before : nat_le slot target ≡ false = grind (arith, nat_tests) in
    rw (before, within ((slot - target) / 4) (2 ^ 15) small, is) refl

-- a half-word below 2^15 is extended without a sign
extended_up : (n : ℕ) → n < 32768 → sign_extended_half n ≡ n
extended_up n h = rw (lt-ltb n 32768 h) refl

-- a half-word from 2^15 on is extended with its sign
extended_down : (n : ℕ) → 32768 ≤ n → sign_extended_half n ≡ n + (2 ^ 32 - 2 ^ 16)
extended_down n h = rw (at_least n h) refl

-- the test of a multiple of 4
aligned_target : (target : ℕ) → target % 4 ≡ 0 → nat_lt 0 (target % 4) ≡ false
aligned_target target h = grind (arith, nat_tests)

-- the offset of a branch to a multiple of 4
branch_back : (address target offset : ℕ) → target % 4 ≡ 0 → words_between (slot_address address) target ≡ Ok offset → branch_offset address target ≡ Ok offset
unfolding branch_offset
branch_back address target offset aligned is = rw (aligned_target target aligned) is

-- the printed target of a branch leads back to its offset
pub printed_branch : (address offset : ℕ) → address % 4 ≡ 0 → 0x80000000 ≤ address → address < 0xa0000000 → offset < 2 ^ 16 → branch_offset address (branch_target address offset) ≡ Ok offset
printed_branch address offset aligned low high h = elim (half_or_more offset) [
  | inl less ↦
      let up = extended_up offset less in
      let is : branch_target address offset ≡ address + 4 + 4 * offset = omega arith in
      rw is (branch_back address (address + 4 + 4 * offset) offset (omega arith) (forward (slot_address address) (address + 4 + 4 * offset) offset (omega arith) (omega arith) less))
  | inr more ↦
      let down = extended_down offset more in
      let is : branch_target address offset ≡ address + 4 - 4 * (2 ^ 16 - offset) = omega arith in
      rw is (branch_back address (address + 4 - 4 * (2 ^ 16 - offset)) offset (omega arith) (backward (slot_address address) (address + 4 - 4 * (2 ^ 16 - offset)) offset (omega arith) (omega arith) (omega arith)))
]

-- the printed target of a branch is a word
pub branch_small : (address offset : ℕ) → branch_target address offset < 2 ^ 32
branch_small address offset = omega arith

-- equal numbers pass the test
same_region : (a b : ℕ) → a ≡ b → (a == b) ≡ true
same_region a b h = grind (arith, nat_tests)

-- the printed target of a jump leads back to its index
pub printed_jump : (address index : ℕ) → address % 4 ≡ 0 → 0x80000000 ≤ address → address < 0xa0000000 → index < 2 ^ 26 → jump_index address (jump_target address index) ≡ Ok index
unfolding jump_index
printed_jump address index aligned low high h =
    let target = jump_target address index in
    let whole : (target % 4 == 0) ≡ true = same_region (target % 4) 0 (omega arith) in
    let region : (target / 2 ^ 28 == slot_address address / 2 ^ 28) ≡ true = same_region (target / 2 ^ 28) (slot_address address / 2 ^ 28) (omega arith) in
    let back : target % 2 ^ 28 / 4 ≡ index = omega arith in
    rw (whole, region, back) refl

-- the printed target of a jump is a word
pub jump_small : (address index : ℕ) → address < 0xa0000000 → index < 2 ^ 26 → jump_target address index < 2 ^ 32
jump_small address index high h = omega arith
