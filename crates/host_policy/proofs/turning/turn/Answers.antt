use Rattle.std.proofs.Common.{◌≡◌, List, refl, subst}
use Rattle.reclaim.specs.declared.turn.Action.{Action}
use Rattle.host_policy.specs.Turns.{AreAimed}
use Rattle.host_policy.proofs.turning.turn.Goals as goal

pub returns-clause-turn : goal.returns-clause-turn
returns-clause-turn g c =
    let same : c.deref.result.now ≡ c.in_ok-plan.plan.actions.items = c.deref.ensures.value in
    record {
      plan = c.in_ok-plan.plan;
      planned = c.in_ok-plan.ensures.plan;
      level = refl;
      aims = c.ask_each.new.aims;
      aimed = subst (λ (actions : List Action). AreAimed c.args.cells.now actions c.args.seats.now c.ask_each.new.aims c.ask_each.new.seats) same c.ask_each.ensures.aimed;
      left_out = c.left_out-left_out.ensures;
    }
