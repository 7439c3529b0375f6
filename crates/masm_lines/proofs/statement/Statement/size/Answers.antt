use Rattle.std.proofs.Common.{◌≡◌, ◌*◌, ◌∙◌, sym, ap}
use Rattle.masm_lines.specs.Lists.{parts}
use Rattle.masm_lines.specs.Statements.{size_of}
use Rattle.masm_lines.specs.Views.{statement_view}
use Rattle.masm_lines.proofs.Parts.{halves_size, bytes_size}
use Rattle.masm_lines.proofs.statement.Statement.size.Goals as goal

pub returns-in-Halves : goal.returns-in-Halves
returns-in-Halves c =
    ap (λ n. n * 2) c.count-in-Halves.ensures.value ∙ sym (halves_size (parts c.in-Halves.list.text.now)) ∙ sym (ap (λ s. size_of (statement_view s)) c.in-Halves.is)

pub returns-in-Bytes : goal.returns-in-Bytes
returns-in-Bytes c =
    c.count-in-Bytes.ensures.value ∙ sym (bytes_size (parts c.in-Bytes.list.text.now)) ∙ sym (ap (λ s. size_of (statement_view s)) c.in-Bytes.is)
