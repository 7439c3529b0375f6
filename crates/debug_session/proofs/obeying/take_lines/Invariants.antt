use Rattle.std.proofs.Common.{◌≡◌, true, map, take}
use Rattle.std.specs.Prelude.{string_bytes}
use Rattle.cell.specs.Sitting.{IsOf, Lasts}
use Rattle.debugline.specs.Views.{line_view}
use Rattle.host.specs.Places.{AtGuest}
use Rattle.debug_session.specs.Goes.{Goes}
use Rattle.debug_session.specs.Replies.{Adds}
use Rattle.debug_session.specs.Talks.{TakesLines}
use Rattle.debug_session.proofs.obeying.take_lines.Given as goal

abbrev pub invariant-loop-line : goal.invariant-loop-line
invariant-loop-line g l = record {
  of : AtGuest l.host.guests.cells.items l.guest (λ front. IsOf front l.seat);
  lasts : Lasts l.initial.seat l.seat;
  with_store : g.S.SwapStore.true_to_digests l.host.guests.memory.first → l.initial.seat.witness.held ≡ true → l.seat.witness.held ≡ true;
  goes : Goes l.initial.seat.seat l.seat.seat;
  taken : Adds (string_bytes l.initial.out) (string_bytes l.out) (λ text. AtGuest l.host.guests.cells.items l.guest
      (λ front. TakesLines front l.initial.now l.initial.seat (map line_view (take l.line-index l.lines)) l.now l.seat text));
}
