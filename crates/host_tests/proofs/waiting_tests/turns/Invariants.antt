use Rattle.host_policy.specs.Turns.{ArePolicySeats}
use Rattle.host_tests.proofs.waiting_tests.turns.Given as goal

abbrev pub invariant-loop : goal.invariant-loop
invariant-loop g l = ArePolicySeats l.host.guests.cells.items l.seats.items
