-- Words as signed integers in two's complement, and integers modulo a power of two.
use Rattle.std.specs.Prelude.{ℕ, ℤ, pos, negsuc, Bool, nat_lt, if◌then◌else◌, Option, Some, None, ◌-◌, ◌%◌, ◌^◌}
use Rattle.std.specs.Int.{cast_signed, cast_unsigned, w32}

-- the integer that a word stands for, -2^31 to 2^31 - 1
abbrev pub signed_value : ℕ → ℤ
signed_value w = cast_signed w32 w

-- whether an integer is the signed value of a word
abbrev pub fits_word : ℤ → Bool
fits_word (pos n) = nat_lt n (2 ^ 31)
fits_word (negsuc n) = nat_lt n (2 ^ 31)

-- the word with this signed value, or none
abbrev pub signed_word : ℤ → Option ℕ
signed_word z = if fits_word z then Some (cast_unsigned w32 z) else None

-- the number from 0 to m - 1 that differs from an integer by a multiple of m (`negsuc n` is -(n + 1))
abbrev pub modulo : ℤ → ℕ → ℕ
modulo (pos n) m = n % m
modulo (negsuc n) m = m - 1 - n % m
