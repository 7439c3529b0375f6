use Rattle.std.proofs.Common.{sym, ◌∙◌}
use Rattle.elf32.proofs.Returning.{file_stands}
use Rattle.elf32.proofs.laws.written_file_stands_for_its_image.Goals as goal

pub returns-clause-stands : goal.returns-clause-stands
returns-clause-stands c = file_stands

pub returns-clause-entry : goal.returns-clause-entry
returns-clause-entry c = λ image back pages ok stands. stands.entry ∙ sym (file_stands image pages ok).entry

pub returns-clause-segments : goal.returns-clause-segments
returns-clause-segments c = λ image back pages ok stands. stands.segments ∙ sym (file_stands image pages ok).segments
