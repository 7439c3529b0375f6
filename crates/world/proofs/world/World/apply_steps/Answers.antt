use Rattle.std.proofs.Common.{arith}
use Rattle.world.proofs.All.{guests_stay}
use Rattle.world.proofs.world.World.apply_steps.Goals as goal

pub returns-clause-guests : goal.returns-clause-guests
returns-clause-guests g c = guests_stay c.steps.ensures.stays (omega (arith, c.if-g-count.false, c.count.ensures))
