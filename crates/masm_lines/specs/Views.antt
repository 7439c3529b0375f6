-- What the values of the code say.
use Rattle.std.specs.Prelude.{ℕ, List, [], ◌∷◌, map, flat_map, Option, Some, None, option_map}
use Rattle.std.specs.Borrow.{Bor}
use Rattle.masm_lines.specs.Operands.{Value, Number, Name, Written, Register, Plain, Based}
use Rattle.masm_lines.specs.Lists.{parts, value_of, half_bytes, byte_of}
use Rattle.masm_lines.specs.Statements as statement
use Rattle.masm_lines.specs.Texts.{bytes_in, ended}
use Rattle.masm_lines.specs.Statements.{Statement}
use Rattle.masm_lines.specs.Grammar.{Line}
use Rattle.masm_lines.specs.declared.written.Value.{Value as ValueCode}
use Rattle.masm_lines.specs.declared.written.Value.TheVariants as value_code
use Rattle.masm_lines.specs.declared.written.Written.{Written as WrittenCode}
use Rattle.masm_lines.specs.declared.written.Written.TheVariants as written_code
use Rattle.masm_lines.specs.declared.argument.Arguments.{Arguments}
use Rattle.masm_lines.specs.declared.list.List.{List as ListCode}
use Rattle.masm_lines.specs.declared.argument.Arguments.TheVariants as arguments
use Rattle.masm_lines.specs.declared.statement.Statement.{Statement as StatementCode}
use Rattle.masm_lines.specs.declared.statement.Statement.TheVariants as statement_code
use Rattle.masm_lines.specs.declared.line.Line.{Line as LineCode}

abbrev pub text_view : Bor (List ℕ) → List ℕ
text_view text = text.now

abbrev pub value_view : ValueCode → Value
value_view (value_code.Number n) = Number n
value_view (value_code.Name name) = Name name.now

abbrev pub written_view : WrittenCode → Written
written_view (written_code.Register r) = Register r
written_view (written_code.Number n) = Plain (Number n)
written_view (written_code.Name name) = Plain (Name name.now)
written_view (written_code.Based n r) = Based n r

abbrev pub written_behind : Bor WrittenCode → Written
written_behind w = written_view w.now

abbrev pub arguments_view : Arguments → List Written
arguments_view arguments.None = []
arguments_view (arguments.One a) = written_view a ∷ []
arguments_view (arguments.Two a b) = written_view a ∷ written_view b ∷ []
arguments_view (arguments.Three a b c) = written_view a ∷ written_view b ∷ written_view c ∷ []

abbrev pub first_view : WrittenCode × Option (Bor (List ℕ)) → Written × Option (List ℕ)
first_view first = (written_view first.0, option_map text_view first.1)

-- the values of a list, and of what is behind its first
abbrev pub list_values : ListCode → List Value
list_values list = map value_of (parts list.text.now)

abbrev pub rest_values : Option ListCode → List Value
rest_values None = []
rest_values (Some list) = list_values list

abbrev pub byte_behind : ℕ × Bor (List ℕ) → ℕ × List ℕ
byte_behind first = (first.0, first.1.now)

abbrev pub statement_view : StatementCode → Statement
statement_view (statement_code.Instruction i) = statement.Instruction i
statement_view (statement_code.Transfer i n) = statement.Transfer i (Number n)
statement_view (statement_code.TransferTo i name) = statement.Transfer i (Name name.now)
statement_view (statement_code.Load rt n) = statement.Load rt (Number n)
statement_view (statement_code.LoadOf rt name) = statement.Load rt (Name name.now)
statement_view (statement_code.Word n) = statement.Word n
statement_view (statement_code.AddressOf name) = statement.AddressOf name.now
statement_view (statement_code.Words list) = statement.Words (list_values list)
statement_view (statement_code.Byte n) = statement.Byte n
statement_view (statement_code.Halves list) = statement.Data 2 (flat_map half_bytes (parts list.text.now))
statement_view (statement_code.Bytes list) = statement.Data 1 (flat_map byte_of (parts list.text.now))
statement_view (statement_code.Text text zero) = statement.Data 1 (ended zero (bytes_in text.text.now))
statement_view (statement_code.Space n) = statement.Space n
statement_view (statement_code.Org n) = statement.Org n
statement_view (statement_code.Entry name) = statement.Entry name.now

abbrev pub line_view : LineCode → Line
line_view line = record { label = option_map text_view line.label; statement = option_map statement_view line.statement }
