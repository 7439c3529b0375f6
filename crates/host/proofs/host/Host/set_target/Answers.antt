use Rattle.host.proofs.Fronts.{at_guest}
use Rattle.host.proofs.Guests.{done_at}
use Rattle.host.proofs.host.Host.set_target.Goals as goal

pub returns-clause-of : goal.returns-clause-of
returns-clause-of g c = at_guest c.cell_of.result.now c.cell_of.ensures.place c.set_target.ensures.of

pub returns-clause-full : goal.returns-clause-full
returns-clause-full g c = λ h. at_guest c.cell_of.result.now c.cell_of.ensures.place (c.set_target.ensures.full h)

pub returns-clause-ok : goal.returns-clause-ok
returns-clause-ok g c = done_at _ _ c.cell_of.result.now _ c.set_target.result c.cell_of.ensures.place c.set_target.ensures.ok
