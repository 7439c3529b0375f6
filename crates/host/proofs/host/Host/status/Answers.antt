use Rattle.host.proofs.Fronts.{at_guest}
use Rattle.host.proofs.host.Host.status.Goals as goal

pub returns-clause-shares : goal.returns-clause-shares
returns-clause-shares g c = at_guest c.cell_of-cell.result.now c.cell_of-cell.ensures.place c.status_of-status.ensures.shares

pub returns-clause-minimum : goal.returns-clause-minimum
returns-clause-minimum g c = at_guest c.cell_of-cell.result.now c.cell_of-cell.ensures.place c.status_of-status.ensures.minimum
