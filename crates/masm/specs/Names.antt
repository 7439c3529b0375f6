-- The addresses of names.
use Rattle.std.specs.Prelude.{ℕ, Bool, false, if◌then◌else◌, List, [], ◌∷◌, ◌++◌, Option, Some, None, is_some, Result, ok_or}
use Rattle.std.specs.Str.{bytes_eq}
use Rattle.masm_lines.specs.Operands.{Value, Number, Name}
use Rattle.masm_lines.specs.Ranges.{address_bits}
use Rattle.masm_lines.specs.declared.fault.AsmFault.{AsmFault}
use Rattle.masm_lines.specs.declared.fault.AsmFault.TheVariants as fault

-- names with their addresses
abbrev pub Names : Type 0
Names = List (List ℕ × ℕ)

abbrev pub address_of : Names → List ℕ → Option ℕ
address_of [] name = None
address_of (entry ∷ entries) name = if bytes_eq entry.0 name then Some entry.1 else address_of entries name

-- the names with a line's label, if it has one
abbrev pub with_label : Names → Option (List ℕ) → ℕ → Names
with_label names None address = names
with_label names (Some name) address = names ++ (name, address) ∷ []

-- a label that is an earlier line's
abbrev pub is_double : Names → Option (List ℕ) → Bool
is_double names None = false
is_double names (Some name) = is_some (address_of names name)

-- the address that a name stands for
abbrev pub known_address : Names → List ℕ → Result ℕ AsmFault
known_address names name = ok_or (address_of names name) fault.UnknownName

-- the address that a value stands for
abbrev pub value_address : Names → Value → Result ℕ AsmFault
value_address names (Number n) = address_bits n
value_address names (Name name) = known_address names name
