use Rattle.host_policy.proofs.Found.{more_victims}
use Rattle.host_policy.proofs.evicting.evict_one.Goals as goal

pub loop-preserved : goal.loop-preserved
loop-preserved g c = more_victims c.args.cells.now c.loop.counter c.in-None.ensures.0 c.loop.invariant c.in-None.ensures.1
