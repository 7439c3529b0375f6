use Rattle.host_policy.specs.Evictions.{WereVictims}
use Rattle.host_policy.proofs.evicting.evict_one.Given as goal

abbrev pub invariant-loop : goal.invariant-loop
invariant-loop g l = WereVictims l.cells l.counter
