use Rattle.cell.specs.Sitting.{IsOf}
use Rattle.host.specs.Places.{AtGuest}
use Rattle.host_tests.proofs.race.memory_of.Given as goal

abbrev pub invariant-loop-piece : goal.invariant-loop-piece
invariant-loop-piece g l = AtGuest l.host.guests.cells.items l.guest (λ front. IsOf front l.seat)
