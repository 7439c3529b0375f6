-- Lists of operands, of which `.word`, `.half` and `.byte` take any number.
use Rattle.std.specs.Prelude.{ℕ, ℤ, Bool, true, false, nat_lt, if◌then◌else◌, List, [], ◌∷◌, map, flat_map, length, Option, Some, Result, Ok, Err, is_ok}
use Rattle.std.specs.Int.{to_le_bytes, w16}
use Rattle.std.specs.List.{list_all}
use Rattle.masm_lines.specs.Characters.{is_comma}
use Rattle.masm_lines.specs.Limits.{longest}
use Rattle.masm_lines.specs.Operands.{Value, Number, Name, Written, Plain, written_of, value_in, number_in}
use Rattle.masm_lines.specs.Statements.{Statement, Words, Data}
use Rattle.masm_lines.specs.Ranges.{either_half_bits, word_bits, byte_bits}
use Rattle.masm_lines.specs.Tokens.{trimmed}
use Rattle.masm_lines.specs.declared.element.Element.{Element}
use Rattle.masm_lines.specs.declared.element.Element.TheVariants.{Word, Half, Byte}
use Rattle.masm_lines.specs.declared.fault.AsmFault.{AsmFault}
use Rattle.masm_lines.specs.declared.fault.AsmFault.TheVariants as fault

abbrev pub before_first_part : ℕ → List (List ℕ) → List (List ℕ)
before_first_part c [] = (c ∷ []) ∷ []
before_first_part c (part ∷ more) = (c ∷ part) ∷ more

-- the parts of a text between its commas, one at least
abbrev pub parts : List ℕ → List (List ℕ)
parts [] = [] ∷ []
parts (c ∷ cs) = if is_comma c then [] ∷ parts cs else before_first_part c (parts cs)

-- an operand, with blanks round it
abbrev pub operand_in : List ℕ → Option Written
operand_in part = written_of (trimmed part)

abbrev pub value_of : List ℕ → Value
value_of part = value_in (operand_in part)

-- the form of an element: `.word` takes names of addresses too
abbrev pub has_element_form : Element → Option Written → Bool
has_element_form Word (Some (Plain value)) = true
has_element_form Half (Some (Plain (Number n))) = true
has_element_form Byte (Some (Plain (Number n))) = true
has_element_form _ _ = false

abbrev pub has_range : (ℤ → Result ℕ AsmFault) → Value → Bool
has_range bits (Number n) = is_ok (bits n)
has_range bits (Name name) = true

abbrev pub in_element_range : Element → Value → Bool
in_element_range Word value = has_range word_bits value
in_element_range Half value = has_range either_half_bits value
in_element_range Byte value = has_range byte_bits value

abbrev pub is_element : Element → List ℕ → Bool
is_element element part = has_element_form element (operand_in part)

abbrev pub is_within : Element → List ℕ → Bool
is_within element part = in_element_range element (value_of part)

-- the bits of a number in its range
abbrev pub bits_or_zero : Result ℕ AsmFault → ℕ
bits_or_zero (Ok bits) = bits
bits_or_zero (Err f) = 0

abbrev pub half_bytes : List ℕ → List ℕ
half_bytes part = to_le_bytes w16 (bits_or_zero (either_half_bits (number_in (operand_in part))))

abbrev pub byte_of : List ℕ → List ℕ
byte_of part = bits_or_zero (byte_bits (number_in (operand_in part))) ∷ []

-- what elements of their form and in their range put
abbrev pub elements : Element → List ℕ → Statement
elements Word text = Words (map value_of (parts text))
elements Half text = Data 2 (flat_map half_bytes (parts text))
elements Byte text = Data 1 (flat_map byte_of (parts text))

-- the form of each element comes before the range of any
unfoldable pub list_statement : Element → List ℕ → Result Statement AsmFault
list_statement element text =
    if nat_lt longest (length text) then Err fault.Operand
    else if list_all (is_element element) (parts text)
    then (if list_all (is_within element) (parts text) then Ok (elements element text) else Err fault.Range)
    else Err fault.Operand
