use Rattle.std.proofs.Common.{arith}
use Rattle.world.proofs.All.{guests_stay, input_logs}
use Rattle.world.proofs.world.World.apply_input.Goals as goal

pub returns-then-g-count-clause-logs : goal.returns-then-g-count-clause-logs
returns-then-g-count-clause-logs g c = input_logs c.args.g c.args.self.now.tenants c.input.new.self.tenants c.args.item c.input.result (omega (arith, c.if-g-count.true, c.count.ensures)) c.input.ensures.adds c.input.ensures.unchanged

pub returns-then-g-count-clause-guests : goal.returns-then-g-count-clause-guests
returns-then-g-count-clause-guests g c = guests_stay c.input.ensures.stays (omega (arith, c.if-g-count.true, c.count.ensures))
