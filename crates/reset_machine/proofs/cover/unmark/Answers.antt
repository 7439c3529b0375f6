use Rattle.std.proofs.Common.{arith}
use Rattle.reset_machine.proofs.Covering.{listed_there}
use Rattle.reset_machine.proofs.cover.unmark.Goals as goal

pub bounds-marked-list : goal.bounds-marked-list
bounds-marked-list c = omega (arith, c.loop-index.invariant.size, listed_there c.args.marked.now c.args.list.now c.loop-index.index 0 c.requires c.loop-index-test.true)
