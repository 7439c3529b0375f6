use Rattle.guest_cells.specs.Handles.{AreHandlesOf}
use Rattle.host.specs.Places.{AtGuest}
use Rattle.host_tests.proofs.exec_tests.run_on.Given as goal

abbrev pub invariant-loop : goal.invariant-loop
invariant-loop g l = AtGuest l.host.guests.cells.items 0 (λ front. AreHandlesOf front l.handles)
