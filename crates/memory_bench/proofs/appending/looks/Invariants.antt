use Rattle.std.proofs.Common.{◌≡◌}
use Rattle.memory_bench.proofs.appending.looks.Given as goal

abbrev pub invariant-loop-round : goal.invariant-loop-round
invariant-loop-round l = l.seat.head ≡ l.initial.seat.head
