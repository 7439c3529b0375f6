use Rattle.std.proofs.Common.{◌≡◌}
use Rattle.console_queue.proofs.tests.next_byte.Given as goal

abbrev pub invariant-loop : goal.invariant-loop
invariant-loop g l = l.taker.queue ≡ l.queue.id
