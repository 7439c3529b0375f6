use Rattle.std.proofs.Common.{subst}
use Rattle.mips_fast.specs.Runs.{AreAdmitted}
use Rattle.runs.specs.declared.ending.Until.{Until}
use Rattle.reset_machine.specs.Past.{goes_past}
use Rattle.reset_machine.proofs.Stepping.{past_steps}
use Rattle.reset_machine.proofs.resetting.ResetMachineRunnable.steps_past.Goals as goal

pub returns-clause-passed : goal.returns-clause-passed
returns-clause-passed c =
    let first = c.args.self.now.machine in
    let made = c.run_quietly-made.result in
    past_steps c.args.until.now made first (subst (λ (until : Until). AreAdmitted (goes_past until) made first) c.new.ensures c.run_quietly-made.ensures.admitted) c.run_quietly-made.ensures.status
