-- Numbers as digits.
use Rattle.std.specs.Prelude.{◌≡◌, ℕ, ◌<◌, ◌^◌, Bool, ◌&&◌, nat_lt, nat_le, if◌then◌else◌, List, length, Option, Some, None}
use Rattle.std.specs.List.{list_all}
use Rattle.std.specs.Char.{is_digit}
use Rattle.std.specs.Str.Parse.{digits_value, AllDigits}

-- digits alone, one at least
abbrev pub is_numeral : ℕ → List ℕ → Bool
is_numeral radix digits = nat_lt 0 (length digits) && list_all (λ c. is_digit c radix) digits

-- the number that digits write, if it is below 2^32; zeros may lead it
unfoldable pub natural_of : ℕ → List ℕ → Option ℕ
natural_of radix digits =
    if is_numeral radix digits && nat_lt (digits_value radix digits) (2 ^ 32) then Some (digits_value radix digits) else None

-- a decimal number
abbrev pub decimal_of : List ℕ → Option ℕ
decimal_of text = natural_of 10 text

-- a number of 1 to 8 hexadecimal digits, of either case
unfoldable pub hexadecimal_of : List ℕ → Option ℕ
hexadecimal_of text = if nat_le (length text) 8 then natural_of 16 text else None

-- the text is digits of a radix, one at least, which write this number
pub record Writes (radix : ℕ) (text : List ℕ) (n : ℕ) : Type 0 where
  pub some : 0 < length text
  pub digits : AllDigits radix text
  pub value : n ≡ digits_value radix text
