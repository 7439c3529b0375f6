use Rattle.cell.specs.Sitting.{IsOf}
use Rattle.host.specs.Places.{AtGuest}
use Rattle.host_tests.proofs.sharing_tests.runs.Given as goal

abbrev pub invariant-loop : goal.invariant-loop
invariant-loop g l = AtGuest l.host.guests.cells.items l.guest (λ front. IsOf front l.seat)
