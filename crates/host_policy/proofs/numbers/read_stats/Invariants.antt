use Rattle.host_policy.proofs.Found.{FoundBelow}
use Rattle.host_policy.proofs.numbers.read_stats.Given as goal

abbrev pub invariant-loop-g : goal.invariant-loop-g
invariant-loop-g g l = FoundBelow l.cells l.stats l.g
