-- Leading zeros bound a word.
use Rattle.std.proofs.Common.{◌≡◌, ℕ, suc, ◌-◌, ◌^◌, ◌<◌, arith}
use Rattle.std.proofs.lemmas.Nat.{leading_top}
use lib.Count.{count_leading_zeros, leading_of_zero}
use Rattle.std.specs.Int.{leading_zeros, w32}
use Rattle.mips_alu.specs.Counting.{HasLeadingZeros}

pub bound : (word : ℕ) → 0 < word → word < 2 ^ 32 → HasLeadingZeros word (leading_zeros w32 word)
bound word h l =
    let top = leading_top 32 word h l in
    let n = count_leading_zeros 32 word in
    let lower : 31 - n ≡ top.0 = omega (arith, top.1) in
    let upper : 32 - n ≡ suc top.0 = omega (arith, top.1) in
    record { within = omega (arith, top.1); at_least = rw lower top.2; below = rw upper top.3 }

pub of_zero : leading_zeros w32 0 ≡ 32
of_zero = leading_of_zero 32
