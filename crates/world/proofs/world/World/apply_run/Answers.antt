use Rattle.std.proofs.Common.{◌∙◌, ap, sym}
use Rattle.world.proofs.All.{TenantIs}
use Rattle.world.proofs.world.World.apply_run.Goals as goal

pub returns-clause-answered : goal.returns-clause-answered
returns-clause-answered g c =
    let e = c.run_steps.ensures in
    λ t. (
      record {
        most = e.most;
        done = e.done;
        need = λ trust p w is. e.need trust p w is t;
        full = λ is. e.full is t;
        room = λ going apart full. e.room going apart t full;
        stop = e.stop;
      },
      λ trust p w is. e.supplied trust p w is t,
      sym (ap (λ (u : TenantIs). u.blocked) (c.guest.ensures t)) ∙ sym c.is_blocked.ensures ∙ c.if-is_blocked.false,
    )
