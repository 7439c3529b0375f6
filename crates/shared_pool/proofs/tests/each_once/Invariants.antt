use Rattle.std.proofs.Common.{◌≡◌}
use Rattle.shared_pool.proofs.tests.each_once.Given as goal

abbrev pub invariant-loop : goal.invariant-loop
invariant-loop g l = (l.pass.pool ≡ l.pool.id) × (l.pass.pool ≡ l.fn.pass.pool)
