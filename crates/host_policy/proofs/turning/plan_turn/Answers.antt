use Rattle.std.proofs.Common.{length}
use Rattle.host_policy.proofs.Found.{still_found}
use Rattle.host_policy.proofs.Planned.{planned, counted, all_at_most}
use Rattle.host_policy.proofs.turning.plan_turn.Goals as goal

pub returns-clause-plan : goal.returns-clause-plan
returns-clause-plan g c =
    let by = c.plan.ensures.sampled in
    planned c.args.memory.now c.args.cells.now c.plan.new.stats c.plan.result (still_found c.args.cells.now by.0 c.read_stats.new.stats c.plan.new.stats c.read_stats.ensures by.1) c.plan.ensures.plan

pub returns-clause-count : goal.returns-clause-count
returns-clause-count g c = counted (length c.read_stats.new.stats) (length c.args.cells.now) c.plan.result c.read_stats.ensures.count c.plan.ensures.count

pub returns-clause-most : goal.returns-clause-most
returns-clause-most g c =
    all_at_most c.guests_are_asked_for_what_they_owe.ensures.balloon c.args.memory.now c.args.cells.now c.plan.result (returns-clause-plan g c) (returns-clause-count g c)
