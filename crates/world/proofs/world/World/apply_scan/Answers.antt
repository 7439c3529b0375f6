use Rattle.std.proofs.Common.{arith}
use Rattle.world.proofs.All.{guests_one, moved_logs}
use Rattle.world.proofs.world.World.apply_scan.Goals as goal

pub returns-clause-logs : goal.returns-clause-logs
returns-clause-logs g c = moved_logs c.scan.ensures.moves (omega (arith, c.if-g-count.false, c.count.ensures))

pub returns-clause-guests : goal.returns-clause-guests
returns-clause-guests g c = guests_one c.scan.ensures.moves (omega (arith, c.if-g-count.false, c.count.ensures))

pub returns-clause-answered : goal.returns-clause-answered
returns-clause-answered g c = λ tax t. record {
  answer = c.scan.ensures.answer t;
  hints = c.scan.ensures.hints t;
  came_free = (c.scan.ensures.comes t).0;
  comes = (c.scan.ensures.comes t).1;
}
