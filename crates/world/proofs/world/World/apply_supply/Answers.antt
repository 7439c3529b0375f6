use Rattle.std.proofs.Common.{arith}
use Rattle.world.proofs.All.{guests_one, moved_logs}
use Rattle.world.proofs.world.World.apply_supply.Goals as goal

pub returns-clause-logs : goal.returns-clause-logs
returns-clause-logs g c = moved_logs c.supply.ensures.moves (omega (arith, c.if-g-count.false, c.count.ensures))

pub returns-clause-guests : goal.returns-clause-guests
returns-clause-guests g c = guests_one c.supply.ensures.moves (omega (arith, c.if-g-count.false, c.count.ensures))
