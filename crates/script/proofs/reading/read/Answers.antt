use Rattle.std.proofs.Common.{ap, ◌∙◌, map}
use Rattle.script.specs.Views.{text_view}
use Rattle.script.proofs.Kept.{allowed_told}
use Rattle.script.proofs.Passes.{script_told, line_told}
use Rattle.script.proofs.reading.read.Goals as goal

pub returns-clause-script : goal.returns-clause-script
returns-clause-script c = script_told c.args.text.now (map text_view c.deref.result.now) c.read_lines.result (ap (map text_view) c.deref.ensures.value ∙ c.in_ok-lines.ensures) c.read_lines.ensures

pub returns-clause-refused : goal.returns-clause-refused
returns-clause-refused c = line_told c.args.text.now (map text_view c.deref.result.now) c.read_lines.result (ap (map text_view) c.deref.ensures.value ∙ c.in_ok-lines.ensures) c.read_lines.ensures

pub returns-clause-allowed : goal.returns-clause-allowed
returns-clause-allowed c = allowed_told c.args.text.now c.read_lines.result (script_told c.args.text.now (map text_view c.deref.result.now) c.read_lines.result (ap (map text_view) c.deref.ensures.value ∙ c.in_ok-lines.ensures) c.read_lines.ensures)
