-- Both parts of a word that lies in two aligned words.
use Rattle.std.proofs.Common.{◌≡◌, ℕ, zero, suc, ◌+◌, ◌-◌, ◌*◌, ◌/◌, ◌%◌, ◌^◌, ◌<◌, arith}
use Rattle.mips_alu.specs.Merging.{merge_left_result, merge_right_result, store_left_result, store_right_result}

pub loaded : (low high register k : ℕ) → low < 2 ^ 32 → high < 2 ^ 32 → register < 2 ^ 32 → 0 < k → k < 4 → merge_left_result high (merge_right_result low register k) (k - 1) ≡ (high * 2 ^ 32 + low) / 2 ^ (8 * k) % 2 ^ 32
loaded low high register zero p q r s t = absurd (omega arith)
loaded low high register (suc zero) p q r s t = omega arith
loaded low high register (suc (suc zero)) p q r s t = omega arith
loaded low high register (suc (suc (suc zero))) p q r s t = omega arith
loaded low high register (suc (suc (suc (suc k)))) p q r s t = absurd (omega arith)

pub stored : (low high register k : ℕ) → low < 2 ^ 32 → high < 2 ^ 32 → register < 2 ^ 32 → 0 < k → k < 4 → store_left_result high register (k - 1) * 2 ^ 32 + store_right_result low register k ≡ high / 2 ^ (8 * k) * 2 ^ (8 * k + 32) + register * 2 ^ (8 * k) + low % 2 ^ (8 * k)
stored low high register zero p q r s t = absurd (omega arith)
stored low high register (suc zero) p q r s t = omega arith
stored low high register (suc (suc zero)) p q r s t = omega arith
stored low high register (suc (suc (suc zero))) p q r s t = omega arith
stored low high register (suc (suc (suc (suc k)))) p q r s t = absurd (omega arith)
