use Rattle.host.proofs.Fronts.{at_guest}
use Rattle.host.proofs.Guests.{ok_at, err_at}
use Rattle.host.proofs.host.Host.debug.Goals as goal

pub returns-clause-of : goal.returns-clause-of
returns-clause-of g c = at_guest c.cell_of-cell.result.now c.cell_of-cell.ensures.place c.debug_of.ensures.of

pub returns-clause-ok : goal.returns-clause-ok
returns-clause-ok g c = ok_at _ _ c.cell_of-cell.result.now _ c.debug_of.result c.cell_of-cell.ensures.place c.debug_of.ensures.ok

pub returns-clause-why : goal.returns-clause-why
returns-clause-why g c = err_at _ _ c.cell_of-cell.result.now _ c.debug_of.result c.cell_of-cell.ensures.place c.debug_of.ensures.why
