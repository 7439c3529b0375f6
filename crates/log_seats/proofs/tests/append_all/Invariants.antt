use Rattle.std.proofs.Common.{◌≡◌}
use Rattle.log_seats.proofs.tests.append_all.Given as goal

abbrev pub invariant-loop-k : goal.invariant-loop-k
invariant-loop-k g l = (l.pen.head ≡ l.head) × (l.seat.head ≡ l.head)
