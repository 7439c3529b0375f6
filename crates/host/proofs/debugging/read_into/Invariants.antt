use Rattle.std.proofs.Common.{◌≡◌, ◌≤◌}
use Rattle.seated.specs.Acts.{Sees}
use Rattle.cell.specs.Sitting.{IsOf, Lasts}
use Rattle.host_policy.specs.Evictions.{WereVictims}
use Rattle.host.proofs.debugging.read_into.Given as goal

abbrev pub invariant-loop : goal.invariant-loop
invariant-loop g l = record {
  of : IsOf l.cell.front l.seat;
  lasts : Lasts l.fn.seat l.seat;
  sees : Sees l.fn.seat.seat l.seat.seat;
  limit : l.tried ≤ 64;
  victims : WereVictims l.guests.cells.items l.tried;
  bytes : l.bytes ≡ l.fn.bytes;
}
