-- The ranges of numbers, and the bits that stand for them.
use Rattle.std.specs.Prelude.{ℕ, ℤ, unsigned_abs, ◌-◌, ◌^◌, nat_le, if◌then◌else◌, Result, Ok, Err}
use Rattle.std.specs.Int.{is_negative}
use Rattle.masm_lines.specs.declared.fault.AsmFault.{AsmFault}
use Rattle.masm_lines.specs.declared.fault.AsmFault.TheVariants as fault

-- a number from `-least` to `greatest` as bits, a negative one modulo 2^width
unfoldable pub bits_within : ℕ → ℕ → ℕ → ℤ → Result ℕ AsmFault
bits_within width least greatest n =
    if is_negative n then (if nat_le (unsigned_abs n) least then Ok (2 ^ width - unsigned_abs n) else Err fault.Range)
    else (if nat_le (unsigned_abs n) greatest then Ok (unsigned_abs n) else Err fault.Range)

-- a field of the word, up to its greatest number
abbrev pub field_bits : ℕ → ℤ → Result ℕ AsmFault
field_bits greatest n = bits_within 32 0 greatest n

-- a signed half-word
abbrev pub signed_half_bits : ℤ → Result ℕ AsmFault
signed_half_bits n = bits_within 16 32768 32767 n

-- a half-word without sign
abbrev pub half_bits : ℤ → Result ℕ AsmFault
half_bits n = bits_within 16 0 65535 n

-- a half-word, with or without sign
abbrev pub either_half_bits : ℤ → Result ℕ AsmFault
either_half_bits n = bits_within 16 32768 65535 n

-- a word, with or without sign
abbrev pub word_bits : ℤ → Result ℕ AsmFault
word_bits n = bits_within 32 2147483648 4294967295 n

-- a byte, with or without sign
abbrev pub byte_bits : ℤ → Result ℕ AsmFault
byte_bits n = bits_within 8 128 255 n

-- an address, or a count of bytes
abbrev pub address_bits : ℤ → Result ℕ AsmFault
address_bits n = bits_within 32 0 4294967295 n
