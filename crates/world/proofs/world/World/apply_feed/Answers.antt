use Rattle.std.proofs.Common.{arith}
use Rattle.world.proofs.All.{guests_stay}
use Rattle.world.proofs.world.World.apply_feed.Goals as goal

pub returns-then-g-count-clause-guests : goal.returns-then-g-count-clause-guests
returns-then-g-count-clause-guests g c = guests_stay c.feed.ensures.stays (omega (arith, c.if-g-count.true, c.count.ensures))
