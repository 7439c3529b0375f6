-- What a line says: at most one label, and then at most one statement.
use Rattle.std.specs.Prelude.{ℕ, ◌+◌, ◌==◌, ◌&&◌, if◌then◌else◌, List, length, take, drop, slice_index, Option, Some, None, Result, Ok, Err}
use Rattle.std.specs.List.{list_all, prefix_len, before_first}
use Rattle.std.specs.Char.{is_ascii}
use Rattle.masm_lines.specs.Characters.{is_blank, continues_name}
use Rattle.masm_lines.specs.Comments.{uncommented}
use Rattle.masm_lines.specs.Tokens.{trimmed_start, trimmed, is_name}
use Rattle.masm_lines.specs.Operations.{operation_of, statement_with}
use Rattle.masm_lines.specs.Statements.{Statement}
use Rattle.masm_lines.specs.Steps.{◌>>=◌}
use Rattle.masm_lines.specs.declared.comment.Place.TheVariants.{Plain}
use Rattle.masm_lines.specs.declared.fault.AsmFault.{AsmFault}
use Rattle.masm_lines.specs.declared.fault.AsmFault.TheVariants as fault

pub record Line : Type 0 where
  pub label : Option (List ℕ)
  pub statement : Option Statement

-- a line without its comment and without the blanks at its ends
unfoldable pub body_of : List ℕ → List ℕ
body_of line = trimmed (take (uncommented Plain line) line)

-- a name with a colon right behind it
unfoldable pub label_of : List ℕ → Option (List ℕ)
label_of body =
    let front = prefix_len continues_name body in
    if is_name (take front body) && slice_index body front == 58 then Some (take front body) else None

-- what follows a label
abbrev pub behind_label : List ℕ → Option (List ℕ) → List ℕ
behind_label body None = body
behind_label body (Some name) = trimmed_start (drop (length name + 1) body)

-- a mnemonic or a directive, and after blanks its operands
unfoldable pub statement_in : List ℕ → Result Statement AsmFault
statement_in text =
    let word = before_first is_blank text in
    operation_of word >>= λ operation. statement_with operation (trimmed_start (drop (length word) text))

-- a statement, or nothing
unfoldable pub statement_or_nothing : List ℕ → Result (Option Statement) AsmFault
statement_or_nothing text = if length text == 0 then Ok None else (statement_in text >>= λ statement. Ok (Some statement))

-- a line's label and statement, or its fault: a byte that isn't ASCII, wherever it stands, comes before all others
unfoldable pub line_of : List ℕ → Result Line AsmFault
line_of line =
    if list_all is_ascii line
    then (statement_or_nothing (behind_label (body_of line) (label_of (body_of line)))
    >>= λ statement. Ok (record { label = label_of (body_of line); statement = statement }))
    else Err fault.Syntax
