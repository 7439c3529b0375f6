use Rattle.std.proofs.Common.{◌≡◌}
use Rattle.cell.specs.Sitting.{IsOf}
use Rattle.host.specs.Places.{AtGuest}
use Rattle.host_tests.proofs.crews.keeps.Given as goal

abbrev pub invariant-loop-round : goal.invariant-loop-round
invariant-loop-round g l = record {
  console : AtGuest l.host.guests.cells.items l.guest (λ front. IsOf front l.kept.console);
  debugger : AtGuest l.host.guests.cells.items l.guest (λ front. IsOf front l.kept.debugger);
  feed : AtGuest l.host.guests.cells.items l.guest (λ front. l.kept.feed.queue ≡ front.queue.id);
}
