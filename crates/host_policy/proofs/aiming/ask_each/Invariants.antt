use Rattle.std.proofs.Common.{◌≡◌, ℕ, ◌≤◌, slice_index_or}
use Rattle.cell.specs.declared.seat.Seat.{Seat}
use Rattle.host_policy.proofs.Turned.{AimedBelow, TurnedBelow}
use Rattle.host_policy.proofs.aiming.ask_each.Given as goal

abbrev pub invariant-loop-g : goal.invariant-loop-g
invariant-loop-g g l = record {
  aimed : AimedBelow l.cells l.actions l.initial.seats l.aims l.seats l.g;
  turned : TurnedBelow g.S.SwapStore.true_to_digests l.cells l.initial.seats l.seats l.g;
  left : (k : ℕ) (s : Seat) → l.g ≤ k → slice_index_or l.seats k s ≡ slice_index_or l.initial.seats k s;
}
