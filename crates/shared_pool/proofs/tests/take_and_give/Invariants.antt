use Rattle.std.proofs.Common.{◌≡◌}
use Rattle.shared_pool.proofs.tests.take_and_give.Given as goal

abbrev pub invariant-loop : goal.invariant-loop
invariant-loop g l = l.pass.pool ≡ l.pool.id
