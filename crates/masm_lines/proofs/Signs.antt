-- Negative numbers.
use Rattle.std.proofs.Common.{◌≡◌, ◌<◌, true, arith, ℤ, pos, negsuc}
use Rattle.std.specs.Prelude.{unsigned_abs}
use Rattle.std.specs.Int.{is_negative}

-- a negative number isn't 0
pub negative_size : (n : ℤ) → is_negative n ≡ true → 0 < unsigned_abs n
negative_size (pos n) h = grind (arith, h)
negative_size (negsuc n) h = omega arith
