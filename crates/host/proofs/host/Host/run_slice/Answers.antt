use Rattle.host.proofs.Fronts.{at_guest}
use Rattle.host.proofs.host.Host.run_slice.Goals as goal

pub returns-clause-of : goal.returns-clause-of
returns-clause-of g c = at_guest c.cell_of-cell.result.now c.cell_of-cell.ensures.place c.slice_of.ensures.of

pub returns-clause-full : goal.returns-clause-full
returns-clause-full g c = λ k e. at_guest c.cell_of-cell.result.now c.cell_of-cell.ensures.place (c.slice_of.ensures.full k e)
