use Rattle.std.proofs.Common.{◌∙◌, Err, ap, arith}
use Rattle.world.proofs.All.{IsAccessed, around_then, guests_then, log_at}
use Rattle.world.proofs.Damaged.{end_later}
use Rattle.world.proofs.Choices.{makes_where, makes_none_where, more_made, run_ends, run_done}
use Rattle.world.proofs.Runs.{still_there, steps_join}
use Rattle.world.proofs.world.World.run_steps.Goals as goal

pub loop-steps-preserved : goal.loop-steps-preserved
loop-steps-preserved g c =
    let at = c.loop-steps in
    let so = at.invariant in
    let new = c.steps_supplied.new.self in
    let e = c.steps_supplied.ensures in
    record {
      inside = still_there c.args.g at.self.tenants new.tenants so.inside e.guests.boots;
      few = omega (arith, so.few, c.in-Ok.ensures.few, c.loop-steps-test.true);
      logs = λ h. steps_join h c.args.g at.steps c.in-Ok.made (log_at c.args.self.now.tenants h) (log_at at.self.tenants h) (log_at new.tenants h) (so.logs h) (c.in-Ok.ensures.logs h);
      made = more_made so.made (makes_where so.around c.in-Ok.ensures.made);
      guests = guests_then so.guests e.guests;
      failed = c.in-Ok.ensures.no_failure ∙ so.failed;
      around = around_then so.around e.around;
    }

pub returns-in-Err-clause-guests : goal.returns-in-Err-clause-guests
returns-in-Err-clause-guests g c = guests_then c.loop-steps.invariant.guests c.steps_supplied.ensures.guests

pub returns-in-Err-clause-around : goal.returns-in-Err-clause-around
returns-in-Err-clause-around g c = around_then c.loop-steps.invariant.around c.steps_supplied.ensures.around

pub returns-in-Err-clause-chosen : goal.returns-in-Err-clause-chosen
returns-in-Err-clause-chosen g c = run_ends c.loop-steps.invariant.made (makes_none_where c.loop-steps.invariant.around c.in-Err.ensures.none)

pub returns-clause-chosen : goal.returns-clause-chosen
returns-clause-chosen g c = run_done c.loop-steps.invariant.made

pub returns-in-Err-clause-stop : goal.returns-in-Err-clause-stop
returns-in-Err-clause-stop g c =
    let s = g.S.SwapStore in
    let so = c.loop-steps.invariant in
    let new = c.steps_supplied.new.self in
    let accessed = IsAccessed s new c.args.g in
    end_later {facts = s} c.args.g accessed accessed c.args.self.now c.loop-steps.self new so.around so.failed (λ q it. it) c.in-Err.end c.in-Err.ensures.stop

pub returns-in-Err-clause-need : goal.returns-in-Err-clause-need
returns-in-Err-clause-need g c = λ trust p why is t.
    c.steps_supplied.ensures.need (c.loop-steps.invariant.around.store.true_to_digests.1 trust) p why (c.in-Err.is ∙ ap Err is) t

pub returns-in-Err-clause-supplied : goal.returns-in-Err-clause-supplied
returns-in-Err-clause-supplied g c = λ trust p why is t.
    c.steps_supplied.ensures.supplied (c.loop-steps.invariant.around.store.true_to_digests.1 trust) p why (c.in-Err.is ∙ ap Err is) t
