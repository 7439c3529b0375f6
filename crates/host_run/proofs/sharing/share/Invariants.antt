use Rattle.std.proofs.Common.{◌<◌, length}
use Rattle.host_policy.specs.Turns.{ArePolicySeats}
use Rattle.host_run.proofs.sharing.share.Given as goal

abbrev pub invariant-loop : goal.invariant-loop
invariant-loop g l = record {
  seats : ArePolicySeats l.host.guests.cells.items l.seats;
  inside : l.round.guest < length l.host.guests.cells.items;
}
