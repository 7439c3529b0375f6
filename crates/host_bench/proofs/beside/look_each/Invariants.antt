use Rattle.std.proofs.Common.{◌≡◌, ◌≤◌, length}
use Rattle.cell.specs.Sitting.{IsOf}
use Rattle.host.specs.Places.{AtGuest}
use Rattle.host_bench.proofs.beside.look_each.Given as goal

abbrev pub invariant-loop-round : goal.invariant-loop-round
invariant-loop-round l = record {
  seat : AtGuest l.host.guests.cells.items 0 (λ front. IsOf front l.seat);
  before : l.before ≤ length l.seat.seat.saw;
  longer : l.longer ≡ l._round;
}
