use Rattle.std.proofs.Common.{◌≡◌, ℕ, IfOk, sym, subst}
use Rattle.reclaim.specs.declared.turn.Plan.{Plan}
use Rattle.reclaim.specs.Levels.{next_level_of}
use Rattle.host_policy.proofs.Levels.{were_free, lies_after_turn}
use Rattle.host_policy.proofs.policy.Policy.plan.Goals as goal

pub put_back-requires-clause-fits : goal.put_back-requires-clause-fits
put_back-requires-clause-fits g c =
    let key = c.self.inside.lock.key in
    let locked = c.take-locked.result.0 in
    let free : ℕ = c.free_frames-free.result in
    let were = were_free key.first.value locked.pass free c.take-locked.ensures.fits.pass c.free_frames-free.ensures.free in
    let level = subst (λ (n : ℕ). IfOk c.plan-plan.result (λ (plan : Plan). plan.level ≡ next_level_of free n locked.state.level)) (sym c.self.invariant) c.plan-plan.ensures.level in
    lies_after_turn key locked (record { state = c.plan-plan.new.self; pass = c.free_frames-free.new.pass }) free c.plan-plan.result c.take-locked.ensures.fits c.free_frames-free.ensures.unchanged were level
    c.plan-plan.ensures.turned c.plan-plan.ensures.unchanged
