use Rattle.world.proofs.All.{done_limits}
use Rattle.world.proofs.Turning.{done_logs, done_boots}
use Rattle.world.proofs.world.World.apply_level.Goals as goal

pub returns-clause-logs : goal.returns-clause-logs
returns-clause-logs g c = done_logs c.args.tax.percent _ c.args.self.now c.level_turn.new.self c.level_turn.result c.level_turn.ensures.turn c.level_turn.ensures.unchanged

pub returns-clause-boots : goal.returns-clause-boots
returns-clause-boots g c = done_boots c.args.tax.percent _ c.args.self.now c.level_turn.new.self c.level_turn.result c.level_turn.ensures.turn c.level_turn.ensures.unchanged

pub returns-clause-limits : goal.returns-clause-limits
returns-clause-limits g c = done_limits c.args.tax.percent _ c.args.self.now c.level_turn.new.self c.level_turn.result c.level_turn.ensures.turn c.level_turn.ensures.unchanged
