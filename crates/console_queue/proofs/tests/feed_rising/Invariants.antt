use Rattle.std.proofs.Common.{◌≡◌}
use Rattle.console_queue.proofs.tests.feed_rising.Given as goal

abbrev pub invariant-loop : goal.invariant-loop
invariant-loop g l = l.feed.queue ≡ l.queue.id
