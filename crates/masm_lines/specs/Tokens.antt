-- Names, registers and numbers.
use Rattle.std.specs.Prelude.{ℕ, ℤ, pos, neg_ℤ, ◌-◌, ◌^◌, min, Bool, false, not, ◌==◌, ◌&&◌, ◌||◌, nat_lt, if◌then◌else◌, List, [], ◌∷◌, length, take, drop, slice_index, Option, Some, None, option_map}
use Rattle.std.specs.List.{list_all, prefix_len, suffix_len}
use Rattle.std.specs.Char.{is_digit}
use Rattle.std.specs.Str.Parse.{digits_value}
use Rattle.masm_lines.specs.Characters.{is_blank, starts_name, continues_name}
use Rattle.masm_names.specs.Mnemonics.{first_of}
use Rattle.masm_names.specs.Registers.{register_named}

-- a text without the blanks before it
unfoldable pub trimmed_start : List ℕ → List ℕ
trimmed_start text = drop (prefix_len is_blank text) text

-- a text without the blanks before it and after it
unfoldable pub trimmed : List ℕ → List ℕ
trimmed text = let rest = trimmed_start text in take (length rest - suffix_len is_blank rest) rest

-- a letter or `_`, and then letters, digits and `_`
abbrev pub is_name : List ℕ → Bool
is_name [] = false
is_name (c ∷ cs) = starts_name c && list_all continues_name cs

-- a point and a name
abbrev pub is_directive : List ℕ → Bool
is_directive [] = false
is_directive (c ∷ cs) = c == 46 && is_name cs

-- the number that digits write: one digit at least, of any length. No range reaches up to 2^40, and from there on all
-- numbers count as that one.
unfoldable pub natural_of : ℕ → List ℕ → Option ℕ
natural_of radix digits =
    if nat_lt 0 (length digits) && list_all (λ c. is_digit c radix) digits
    then Some (min (digits_value radix digits) (2 ^ 40)) else None

-- a number: decimal digits, with a `-` or without, or `0x` and hexadecimal digits
unfoldable pub number_of : List ℕ → Option ℤ
number_of text =
    if slice_index text 0 == 45 then option_map (λ n. neg_ℤ (pos n)) (natural_of 10 (drop 1 text))
    else if slice_index text 0 == 48 && slice_index text 1 == 120 then option_map pos (natural_of 16 (drop 2 text))
    else option_map pos (natural_of 10 text)

-- a number of 0 to 31 without leading zeros
abbrev pub is_register_number : List ℕ → Bool
is_register_number digits =
    (nat_lt 0 (length digits) && list_all (λ c. is_digit c 10) digits)
    && ((length digits == 1 || not (slice_index digits 0 == 48)) && nat_lt (digits_value 10 digits) 32)

-- the register of a number
abbrev pub register_numbered : List ℕ → Option ℕ
register_numbered digits = if is_register_number digits then Some (digits_value 10 digits) else None

-- a register: `$`, and its number or its name
unfoldable pub register_of : List ℕ → Option ℕ
register_of text =
    if slice_index text 0 == 36 then first_of (register_numbered (drop 1 text)) (register_named (drop 1 text)) else None
