use Rattle.std.proofs.Common.{◌≡◌}
use Rattle.console_queue.proofs.tests.take_rising.Given as goal

abbrev pub invariant-loop : goal.invariant-loop
invariant-loop g l = l.taker.queue ≡ l.queue.id
