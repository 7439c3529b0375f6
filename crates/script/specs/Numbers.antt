-- Numbers, words of a processor and bytes, as a script writes them.
use Rattle.std.specs.Prelude.{ℕ, ◌^◌, Bool, ◌==◌, ◌&&◌, nat_lt, nat_le, if◌then◌else◌, List, length, drop, slice_index, Option, Some, None}
use Rattle.std.specs.List.{list_all}
use Rattle.std.specs.Char.{is_digit}
use Rattle.std.specs.Result.{result_ok}
use Rattle.std.specs.Str.Parse.{digits_value}
use Rattle.hex.specs.Hex.{decode_of}

-- digits alone, one at least
abbrev pub is_numeral : ℕ → List ℕ → Bool
is_numeral radix digits = nat_lt 0 (length digits) && list_all (λ c. is_digit c radix) digits

-- the number that digits write, if it is below 2^32; zeros may lead it
unfoldable pub natural_of : ℕ → List ℕ → Option ℕ
natural_of radix digits =
    if is_numeral radix digits && nat_lt (digits_value radix digits) (2 ^ 32) then Some (digits_value radix digits) else None

-- a decimal number
abbrev pub number_of : List ℕ → Option ℕ
number_of text = natural_of 10 text

-- a virtual address or a word: `0x` and 1 to 8 hexadecimal digits
unfoldable pub word_of : List ℕ → Option ℕ
word_of text =
    if (slice_index text 0 == 48 && slice_index text 1 == 120) && nat_le (length text) 10
    then natural_of 16 (drop 2 text) else None

-- bytes, one at least, of two hexadecimal digits each
unfoldable pub bytes_of : List ℕ → Option (List ℕ)
bytes_of text = if length text == 0 then None else result_ok (decode_of text)
