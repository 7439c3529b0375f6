use Rattle.std.proofs.Common.{◌≡◌}
use Rattle.log_seats.proofs.tests.see_all.Given as goal

abbrev pub invariant-loop : goal.invariant-loop
invariant-loop g l = l.seat.head ≡ l.head
