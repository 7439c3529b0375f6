use Rattle.std.proofs.Common.{ℕ, ◌≡◌, ◌-◌, ◌<◌, ◌≤◌, None}
use Rattle.runs.specs.Endings.{ending_after}
use Rattle.runs.specs.Coverage.{covered}
use Rattle.runs.specs.Runs.{after_steps}
use Rattle.runs.proofs.running.make_until.Given as goal

-- the steps so far were made, and no state before was one that the run ends at
abbrev pub invariant-loop-made : goal.invariant-loop-made
invariant-loop-made g l = record {
  few : l.made ≤ l.count;
  state : g.M.Runnable.state l.machine ≡ after_steps l.made (g.M.Runnable.state l.fn.machine);
  kept : g.M.Runnable.kept l.machine ≡ g.M.Runnable.kept l.fn.machine;
  covered : g.M.Runnable.coverage l.machine ≡ covered l.made (g.M.Runnable.state l.fn.machine) (g.M.Runnable.coverage l.fn.machine);
  none_before : (k : ℕ) → k < l.made → ending_after l.until (g.M.Runnable.state l.fn.machine) k ≡ None;
  here : l.ending ≡ ending_after l.until (g.M.Runnable.state l.fn.machine) l.made;
}

abbrev pub decreases-loop-made : goal.decreases-loop-made
decreases-loop-made g l = l.count - l.made
