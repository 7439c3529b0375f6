use Rattle.std.proofs.Common.{◌≡◌, ◌-◌, ◌≤◌, ◌<◌}
use Rattle.runs.specs.Coverage.{covered}
use Rattle.runs.specs.Runs.{after_steps}
use Rattle.reset_machine.proofs.resetting.ResetMachine.step_on.Given as goal

abbrev pub invariant-loop-is_new : goal.invariant-loop-is_new
invariant-loop-is_new l = record {
  some : 0 < l.made;
  few : l.made ≤ l.count;
  machine : l.self.machine ≡ after_steps l.made l.fn.self.machine;
  home : l.self.home ≡ l.fn.self.home;
  coverage : l.self.coverage ≡ covered l.made l.fn.self.machine l.fn.self.coverage;
}

abbrev pub decreases-loop-is_new : goal.decreases-loop-is_new
decreases-loop-is_new l = l.count - l.made
