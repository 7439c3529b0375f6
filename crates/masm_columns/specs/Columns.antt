-- The column of the word that a fault of a line is about.
use Rattle.std.specs.Prelude.{ℕ, zero, suc, ◌+◌, ◌==◌, nat_lt, nat_le, if◌then◌else◌, List, length, take, ◌||◌, Option, Some, None, option_map}
use Rattle.masm_lines.specs.declared.fault.AsmFault.{AsmFault}
use Rattle.masm_lines.specs.declared.fault.AsmFault.TheVariants as fault
use Rattle.masm_columns.specs.Beginnings.{goes_on, is_line}
use Rattle.masm_columns.specs.Places.{behind, statement, uncommented}
use Rattle.masm_columns.specs.declared.place.Class.TheVariants.{Blank, NoBlank, Not, Ascii}

-- behind the mnemonic or directive, where the first operand's place is; the others' are behind the commas
abbrev pub operands : List ℕ → ℕ
operands line = behind line (statement line) NoBlank

-- the place so many operands on, or of the last one
unfoldable pub operand_from : ℕ → List ℕ → ℕ → ℕ
operand_from zero line place = place
operand_from (suc n) line place =
    let comma = behind line place (Not 44) in
    if nat_le (length line) comma then place else operand_from n line (comma + 1)

-- the first operand, of so many, with which the line can't be gone on with
unfoldable pub misfit_from : ℕ → List ℕ → ℕ → Option ℕ
misfit_from zero line place = None
misfit_from (suc n) line place =
    let comma = behind line place (Not 44) in
    if goes_on (take comma line) then (if nat_le (length line) comma then None else misfit_from n line (comma + 1)) else Some place

abbrev pub operand_column : List ℕ → ℕ → ℕ
operand_column line number =
    let text = uncommented line in
    behind text (operand_from number text (operands text)) Blank

abbrev pub syntax_column : List ℕ → ℕ
syntax_column line = if nat_lt (behind line 0 Ascii) (length line) then behind line 0 Ascii else statement line

abbrev pub word_column : List ℕ → Option ℕ → Option ℕ
word_column line place = option_map (λ p. behind line p Blank) place

-- the mnemonic's where an operand is missing; else the first operand's, of 64, with which the line can't be gone on with
abbrev pub misfit_column : List ℕ → Option ℕ
misfit_column line =
    if behind line (operands line) Blank == length line || goes_on line then Some (statement line)
    else word_column line (misfit_from 64 line (operands line))

-- the last operand's where the line is one by itself: it is a target
abbrev pub range_column : List ℕ → Option ℕ
range_column line =
    if is_line line then Some (operand_column line (length line)) else word_column line (misfit_from 64 line (operands line))

abbrev pub wrong_column : List ℕ → AsmFault → Option ℕ
wrong_column line fault.Syntax = Some (syntax_column line)
wrong_column line fault.Mnemonic = Some (statement line)
wrong_column line fault.Place = Some (statement line)
wrong_column line fault.DoubleName = Some (behind line 0 Blank)
wrong_column line fault.Operand = misfit_column (uncommented line)
wrong_column line fault.Range = range_column (uncommented line)
wrong_column line fault.UnknownName = Some (operand_column line (length line))
wrong_column line fault.Empty = None
wrong_column line fault.Entry = None
