use Rattle.host_policy.specs.Turns.{ArePolicySeats}
use Rattle.host_tests.proofs.race.turns.Given as goal

abbrev pub invariant-loop-turn : goal.invariant-loop-turn
invariant-loop-turn g l = ArePolicySeats l.host.guests.cells.items l.seats.items
