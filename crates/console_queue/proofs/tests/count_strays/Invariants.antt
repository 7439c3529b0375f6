use Rattle.std.proofs.Common.{◌≡◌, ◌≤◌}
use Rattle.console_queue.proofs.tests.count_strays.Given as goal

abbrev pub invariant-loop-k : goal.invariant-loop-k
invariant-loop-k g l = (l.taker.queue ≡ l.queue.id) × (l.strays ≤ l.k)
