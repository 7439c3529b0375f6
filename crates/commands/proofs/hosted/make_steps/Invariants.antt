use Rattle.std.proofs.Common.{◌≡◌, ◌-◌, ◌≤◌}
use Rattle.commands.specs.Hosted.{hosted_of, IsAlone}
use Rattle.runs.specs.Runs.{after_steps}
use Rattle.commands.proofs.hosted.make_steps.Given as goal

-- the steps so far were made
abbrev pub invariant-loop-made : goal.invariant-loop-made
invariant-loop-made l = record {
  alone : IsAlone l.world;
  few : l.made ≤ l.count;
  state : (hosted_of l.world.tenants).machine ≡ after_steps l.made (hosted_of l.fn.world.tenants).machine;
}

abbrev pub decreases-loop-made : goal.decreases-loop-made
decreases-loop-made l = l.count - l.made
