use Rattle.std.proofs.Common.{◌≡◌, ◌≤◌, ◌+◌}
use Rattle.guest_pages.specs.Holdings.{swapped_pages}
use Rattle.cell.specs.Sitting.{Sits}
use Rattle.cell.proofs.reading.read_in.Given as goal

abbrev pub invariant-loop-supplied : goal.invariant-loop-supplied
invariant-loop-supplied g l = record {
  sits : Sits g.S.SwapStore.true_to_digests l.front l.locked;
  bytes : l.bytes ≡ l.fn.bytes;
  fewer : swapped_pages l.locked.guest.value.bus.pages + l._supplied ≤ l.away;
}
