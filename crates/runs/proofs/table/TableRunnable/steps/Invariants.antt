use Rattle.std.proofs.Common.{◌≡◌}
use Rattle.runs.specs.Runs.{after_steps}
use Rattle.runs.proofs.table.TableRunnable.steps.Given as goal

abbrev pub invariant-loop-made : goal.invariant-loop-made
invariant-loop-made l = l.self ≡ after_steps l.made l.initial.self
