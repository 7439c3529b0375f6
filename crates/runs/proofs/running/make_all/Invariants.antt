use Rattle.std.proofs.Common.{◌≡◌, ◌-◌, ◌≤◌}
use Rattle.runs.specs.Coverage.{covered}
use Rattle.runs.specs.Runs.{after_steps}
use Rattle.runs.proofs.running.make_all.Given as goal

-- the steps so far were made
abbrev pub invariant-loop-made : goal.invariant-loop-made
invariant-loop-made g l = record {
  few : l.made ≤ l.count;
  state : g.M.Runnable.state l.machine ≡ after_steps l.made (g.M.Runnable.state l.fn.machine);
  kept : g.M.Runnable.kept l.machine ≡ g.M.Runnable.kept l.fn.machine;
  covered : g.M.Runnable.coverage l.machine ≡ covered l.made (g.M.Runnable.state l.fn.machine) (g.M.Runnable.coverage l.fn.machine);
}

abbrev pub decreases-loop-made : goal.decreases-loop-made
decreases-loop-made g l = l.count - l.made
