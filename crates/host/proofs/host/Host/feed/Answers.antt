use Rattle.host.proofs.Fronts.{at_guest}
use Rattle.host.proofs.host.Host.feed.Goals as goal

pub returns-clause-full : goal.returns-clause-full
returns-clause-full g c = λ h. at_guest c.cell_of.result.now c.cell_of.ensures.place (c.feed.ensures.full h)
