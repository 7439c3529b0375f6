use Rattle.std.proofs.Common.{◌≤◌}
use Rattle.cell.specs.Sitting.{IsOf}
use Rattle.host.specs.Places.{AtGuest}
use Rattle.host_bench.proofs.beside.read_each.Given as goal

abbrev pub invariant-loop-round : goal.invariant-loop-round
invariant-loop-round g l = record {
  seat : AtGuest l.host.guests.cells.items 0 (λ front. IsOf front l.seat);
  read : l.read ≤ l._round;
}
