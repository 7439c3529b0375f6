-- Operands as a source writes them.
use Rattle.std.specs.Prelude.{ℕ, zero, suc, ℤ, pos, ◌-◌, ◌==◌, if◌then◌else◌, List, [], ◌∷◌, length, take, slice_index, slice_get, Option, Some, None, option_map, Result, Ok, Err, ok_or}
use Rattle.std.specs.List.{list_any, before_first, after_first}
use Rattle.masm_lines.specs.Characters.{is_comma, is_open}
use Rattle.masm_lines.specs.Steps.{◌>>=◌}
use Rattle.masm_lines.specs.Tokens.{trimmed, is_name, number_of, register_of}
use Rattle.masm_lines.specs.declared.fault.AsmFault.{AsmFault}
use Rattle.masm_lines.specs.declared.fault.AsmFault.TheVariants as fault

-- a number, or the name of an address
pub data Value : Type 0 where
  Number : ℤ → Value
  Name : List ℕ → Value

-- a register, a value, or an offset with a base register in parentheses
pub data Written : Type 0 where
  Register : ℕ → Written
  Plain : Value → Written
  Based : ℤ → ℕ → Written

-- one of two values, the second by what is there
abbrev pub match_option : {A B : Type 0} → Option A → B → (A → B) → B
match_option None b f = b
match_option (Some a) b f = f a

-- f of both, where both are there
abbrev pub both : {A B C : Type 0} → (A → B → C) → Option A → Option B → Option C
both f (Some a) (Some b) = Some (f a b)
both f (Some a) None = None
both f None b = None

-- a number, and right behind it a register in parentheses
unfoldable pub based_of : List ℕ → Option Written
based_of text =
    let behind = after_first is_open text in
    if slice_index behind (length behind - 1) == 41
    then both Based (number_of (before_first is_open text)) (register_of (take (length behind - 1) behind))
    else None

-- an operand: a name, a register, an offset with a base, or a number
unfoldable pub written_of : List ℕ → Option Written
written_of text =
    if is_name text then Some (Plain (Name text))
    else if slice_index text 0 == 36 then option_map Register (register_of text)
    else if list_any is_open text then based_of text
    else option_map (λ n. Plain (Number n)) (number_of text)

-- the operand before the first comma, with blanks round it
abbrev pub operand_before_comma : List ℕ → Result Written AsmFault
operand_before_comma text = ok_or (written_of (trimmed (before_first is_comma text))) fault.Operand

-- what follows the first comma, if there is one
abbrev pub behind_comma : List ℕ → Option (List ℕ)
behind_comma text = if list_any is_comma text then Some (after_first is_comma text) else None

-- operands with commas between them, at most so many
abbrev pub operands_up_to : ℕ → List ℕ → Result (List Written) AsmFault
operands_up_to zero text = Err fault.Operand
operands_up_to (suc most) text =
    operand_before_comma text
    >>= λ first. match_option (behind_comma text) (Ok (first ∷ [])) (λ more. operands_up_to most more >>= λ others. Ok (first ∷ others))

-- the operands behind a mnemonic or a directive: none, or up to three
unfoldable pub operands_in : List ℕ → Result (List Written) AsmFault
operands_in text = if length text == 0 then Ok [] else operands_up_to 3 text

-- the register and the number of an operand: those of a base and its offset too
abbrev pub register_in : Option Written → ℕ
register_in None = 0
register_in (Some (Register r)) = r
register_in (Some (Plain v)) = 0
register_in (Some (Based n r)) = r

abbrev pub number_in : Option Written → ℤ
number_in None = pos 0
number_in (Some (Register r)) = pos 0
number_in (Some (Plain (Number n))) = n
number_in (Some (Plain (Name s))) = pos 0
number_in (Some (Based n r)) = n

abbrev pub value_in : Option Written → Value
value_in None = Number (pos 0)
value_in (Some (Register r)) = Number (pos 0)
value_in (Some (Plain v)) = v
value_in (Some (Based n r)) = Number (pos 0)

-- of the operand at a place, counted from 0
abbrev pub register_at : List Written → ℕ → ℕ
register_at written place = register_in (slice_get written place)

abbrev pub number_at : List Written → ℕ → ℤ
number_at written place = number_in (slice_get written place)

abbrev pub value_written : List Written → ℕ → Value
value_written written place = value_in (slice_get written place)
