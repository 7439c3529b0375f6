use Rattle.std.proofs.Common.{◌≡◌, ◌≤◌}
use Rattle.cell.specs.Slices.{Slice}
use Rattle.cell.specs.Sitting.{Sits, Narrows}
use Rattle.cell.proofs.piece.piece_in.Given as goal

abbrev pub invariant-loop : goal.invariant-loop
invariant-loop g l = record {
  sits : Sits g.S.SwapStore.true_to_digests l.front l.locked;
  slice : Slice l.fn.seat l.steps l.seat;
  saw : l.seat.saw ≡ l.locked.guest.value.log.items;
  few : l.steps ≤ l.most;
  narrows : Narrows l.fn.locked l.locked;
  head : l.seat.head ≡ l.fn.seat.head;
  number : l.seat.number ≡ l.fn.seat.number;
}
