use Rattle.std.proofs.Common.{◌≡◌, ◌≤◌, ◌*◌}
use Rattle.host.specs.Places.{AtGuest}
use Rattle.host_bench.proofs.beside.feed_each.Given as goal

abbrev pub invariant-loop-round : goal.invariant-loop-round
invariant-loop-round g l = record {
  feed : AtGuest l.host.guests.cells.items 0 (λ front. l.feed.queue ≡ front.queue.id);
  put : l.put ≤ 3 * l._round;
}
