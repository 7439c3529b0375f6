use Rattle.std.proofs.Common.{arith}
use Rattle.world.proofs.All.{guests_one, moved_logs}
use Rattle.world.proofs.world.World.apply_evict.Goals as goal

pub returns-then-g-count-clause-logs : goal.returns-then-g-count-clause-logs
returns-then-g-count-clause-logs g c = moved_logs c.evict.ensures.moves (omega (arith, c.if-g-count.true, c.count.ensures))

pub returns-then-g-count-clause-guests : goal.returns-then-g-count-clause-guests
returns-then-g-count-clause-guests g c = guests_one c.evict.ensures.moves (omega (arith, c.if-g-count.true, c.count.ensures))
