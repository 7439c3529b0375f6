use Rattle.std.proofs.Common.{◌≡◌, length}
use Rattle.memory_bench.proofs.appending.append_items.Given as goal

abbrev pub invariant-loop-round : goal.invariant-loop-round
invariant-loop-round l = record {
  pen : l.pen.head ≡ l.initial.pen.head;
  seat : l.seat.head ≡ l.initial.seat.head;
  own : l.item.seat ≡ l.seat.number;
  length : length l.pen.log ≡ l._round;
}
