use Rattle.cell.specs.Sitting.{IsOf}
use Rattle.host.specs.Places.{AtGuest}
use Rattle.host_bench.proofs.beside.run_on.Given as goal

abbrev pub invariant-loop : goal.invariant-loop
invariant-loop g l = AtGuest l.host.guests.cells.items 0 (λ front. IsOf front l.seat)
