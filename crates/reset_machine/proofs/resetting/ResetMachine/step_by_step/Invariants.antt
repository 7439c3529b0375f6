use Rattle.std.proofs.Common.{◌≡◌}
use Rattle.runs.specs.Coverage.{covered}
use Rattle.runs.specs.Runs.{after_steps}
use Rattle.reset_machine.proofs.resetting.ResetMachine.step_by_step.Given as goal

abbrev pub invariant-loop-made : goal.invariant-loop-made
invariant-loop-made l = record {
  machine : l.self.machine ≡ after_steps l.made l.initial.self.machine;
  home : l.self.home ≡ l.initial.self.home;
  coverage : l.self.coverage ≡ covered l.made l.initial.self.machine l.initial.self.coverage;
}
