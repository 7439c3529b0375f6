use Rattle.std.proofs.Common.{◌≡◌, ◌≤◌}
use Rattle.cell.specs.Slices.{Slice}
use Rattle.cell.specs.Sitting.{IsOf, Lasts}
use Rattle.host_policy.specs.Evictions.{WereVictims}
use Rattle.host.proofs.slices.slice_of.Given as goal

abbrev pub invariant-loop : goal.invariant-loop
invariant-loop g l = record {
  of : IsOf l.cell.front l.seat;
  lasts : Lasts l.fn.seat l.seat;
  slice : Slice l.fn.seat.seat l.made l.seat.seat;
  few : l.made ≤ l.count;
  tried : l.tried ≤ 64;
  victims : WereVictims l.guests.cells.items l.tried;
  number : l.seat.seat.number ≡ l.fn.seat.seat.number;
}
