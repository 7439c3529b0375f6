use Rattle.std.proofs.Common.{◌≡◌}
use Rattle.shared_pool.proofs.pool.SharedPool.give_as.Given as goal

abbrev pub invariant-loop : goal.invariant-loop
invariant-loop g l = (l.pass ≡ l.fn.pass) × (l.again ≡ l.fn.no) × (l.account ≡ l.fn.share)
