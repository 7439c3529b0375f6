use Rattle.std.proofs.Common.{arith}
use Rattle.world.proofs.All.{guests_stay, step_logs}
use Rattle.world.proofs.world.World.apply_step.Goals as goal

pub returns-clause-logs : goal.returns-clause-logs
returns-clause-logs g c = step_logs _ c.args.g c.args.self.now.tenants c.step.new.self.tenants c.step.result (omega (arith, c.if-g-count.false, c.count.ensures)) c.step.ensures.adds c.step.ensures.needs c.step.ensures.unchanged

pub returns-clause-guests : goal.returns-clause-guests
returns-clause-guests g c = guests_stay c.step.ensures.stays (omega (arith, c.if-g-count.false, c.count.ensures))
