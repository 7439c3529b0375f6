use Rattle.std.proofs.Common.{◌≡◌}
use Rattle.lasting_truth.proofs.tests.look_often.Given as goal

abbrev pub invariant-loop : goal.invariant-loop
invariant-loop l = (l.keeper ≡ l.initial.keeper) × (l.witness.truth ≡ l.initial.witness.truth)
