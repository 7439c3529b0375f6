use Rattle.host.proofs.Fronts.{at_guest}
use Rattle.host.proofs.Guests.{ok_at}
use Rattle.host.proofs.host.Host.drain.Goals as goal

pub returns-clause-of : goal.returns-clause-of
returns-clause-of g c = at_guest c.cell_of.result.now c.cell_of.ensures.place c.drain.ensures.of

pub returns-clause-full : goal.returns-clause-full
returns-clause-full g c = λ h. at_guest c.cell_of.result.now c.cell_of.ensures.place (c.drain.ensures.full h)

pub returns-clause-ok : goal.returns-clause-ok
returns-clause-ok g c = ok_at _ _ c.cell_of.result.now _ c.drain.result c.cell_of.ensures.place c.drain.ensures.ok
