use Rattle.std.proofs.Common.{◌∙◌, Err, ap, refl, sym, subst, arith}
use Rattle.world.proofs.All.{Machine, NoneNeeds, GuestBusIs, books_then, log_at, pages_at, same_boots, same_logs, view_at}
use Rattle.guest.proofs.Running.{no_step}
use Rattle.world.proofs.Runs.{stays_there, steps_join, steps_none, stays_none, stays_then}
use Rattle.world.proofs.Unsupplied.{no_steps, then_more, same_places, view_on}
use Rattle.world.proofs.world.World.steps.Goals as goal

pub returns-in-Err-clause-logs : goal.returns-in-Err-clause-logs
returns-in-Err-clause-logs g c = λ h.
    let at = c.loop-made in
    same_logs c.args.g at.self.tenants c.some_steps.new.self.tenants at.invariant.inside c.in-Err.ensures.nothing.0 h ∙ at.invariant.logs h

pub returns-in-Err-clause-need : goal.returns-in-Err-clause-need
returns-in-Err-clause-need g c = λ trust p why is t.
    c.some_steps.ensures.need (subst g.S.SwapStore.true_to_digests (sym c.loop-made.invariant.around.store) trust) p why (c.in-Err.is ∙ ap Err is) t

pub returns-in-Err-clause-boots : goal.returns-in-Err-clause-boots
returns-in-Err-clause-boots g c = same_boots c.some_steps.ensures.stays c.loop-made.invariant.inside ∙ c.loop-made.invariant.boots

pub returns-in-Err-clause-stays : goal.returns-in-Err-clause-stays
returns-in-Err-clause-stays g c = stays_then c.loop-made.invariant.stays c.some_steps.ensures.stays

pub loop-made-preserved : goal.loop-made-preserved
loop-made-preserved g c =
    let at = c.loop-made in
    record {
      inside = stays_there c.some_steps.ensures.stays at.invariant.inside;
      few = omega (arith, at.invariant.few, c.in-Ok.ensures.few, c.loop-made-test.true);
      none = λ none. absurd (omega (arith, none, c.in-Ok.ensures.some));
      logs = λ h. steps_join h c.args.g at.made c.in-Ok.steps (log_at c.args.self.now.tenants h) (log_at at.self.tenants h) (log_at c.some_steps.new.self.tenants h) (at.invariant.logs h)
          (c.in-Ok.ensures.logs h);
      view = λ t. view_on at.made c.in-Ok.steps (view_at c.args.self.now c.args.g t) (view_at at.self c.args.g t) (view_at c.some_steps.new.self c.args.g t) (at.invariant.view t) (c.in-Ok.ensures.view t);
      needs_none = λ trust t.
          then_more at.made c.in-Ok.steps (view_at c.args.self.now c.args.g t) (pages_at c.args.self.now c.args.g t) (pages_at at.self c.args.g t) (pages_at c.some_steps.new.self c.args.g t)
          (at.invariant.needs_none trust t)
          (subst (λ (m : Machine). NoneNeeds c.in-Ok.steps m (pages_at at.self c.args.g t) (pages_at c.some_steps.new.self c.args.g t)) (at.invariant.view t)
          (c.in-Ok.ensures.needs_none (subst g.S.SwapStore.true_to_digests (sym at.invariant.around.store) trust) t));
      boots = same_boots c.some_steps.ensures.stays at.invariant.inside ∙ at.invariant.boots;
      stays = stays_then at.invariant.stays c.some_steps.ensures.stays;
      around = books_then at.invariant.around c.some_steps.ensures.around;
    }

pub returns-in-Err-clause-needs_none : goal.returns-in-Err-clause-needs_none
returns-in-Err-clause-needs_none g c = λ trust t.
    let at = c.loop-made in
    same_places at.made (view_at c.args.self.now c.args.g t) (pages_at c.args.self.now c.args.g t) (pages_at at.self c.args.g t) (pages_at c.some_steps.new.self c.args.g t)
    (at.invariant.needs_none trust t) (ap (λ (b : GuestBusIs). b.pages) (c.in-Err.ensures.nothing.0.so t).bus)

pub loop-made-init : goal.loop-made-init
loop-made-init g c = record {
  inside = c.requires;
  few = omega arith;
  none = λ none. refl;
  logs = λ h. steps_none h c.args.g (log_at c.args.self.now.tenants h);
  view = λ t. sym (no_step 0 (view_at c.args.self.now c.args.g t));
  needs_none = λ trust t. no_steps (view_at c.args.self.now c.args.g t) (pages_at c.args.self.now c.args.g t) (pages_at c.args.self.now c.args.g t) refl;
  boots = refl;
  stays = stays_none c.args.g c.args.self.now.tenants;
  around = record { hints = refl; store = refl; frames = refl; level = refl };
}
