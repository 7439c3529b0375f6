use Rattle.std.proofs.Common.{◌≡◌}
use Rattle.host.specs.Places.{AtGuest}
use Rattle.host_run.specs.Seats.{IsSeat}
use Rattle.host_run.proofs.running.run_guest.Given as goal

abbrev pub invariant-loop : goal.invariant-loop
invariant-loop g l = AtGuest l.host.guests.cells.items l.guest (λ front. IsSeat front 0 l.seat)
