use Rattle.script.proofs.Numbered.{none_of_four}
use Rattle.std.proofs.Common.{sym}
use Rattle.script.proofs.event.event_of_numbers.Goals as goal

pub returns-in-Four : goal.returns-in-Four
returns-in-Four c = rw c.in-Four.is (sym (none_of_four c.args.name _ _ _ _))
