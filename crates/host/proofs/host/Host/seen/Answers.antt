use Rattle.host.proofs.Fronts.{at_guest}
use Rattle.host.proofs.host.Host.seen.Goals as goal

pub returns-clause-of : goal.returns-clause-of
returns-clause-of g c = at_guest c.cell_of.result.now c.cell_of.ensures.place c.seen.ensures.of
