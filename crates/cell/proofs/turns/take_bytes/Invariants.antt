use Rattle.std.proofs.Common.{◌≡◌, ℕ, List, Option}
use Rattle.page_moves.specs.Faith.{Kept}
use Rattle.guest.specs.Guests.{view_of, Intact}
use Rattle.guest.specs.Views.{pages_seen}
use Rattle.seated.specs.Acts.{Stays}
use Rattle.cell.specs.Inputs.{bytes_in}
use Rattle.cell.specs.Slices.{Slice}
use Rattle.cell.proofs.turns.take_bytes.Given as goal

abbrev pub invariant-loop : goal.invariant-loop
invariant-loop g l = record {
  queue : l.taker.queue ≡ l.fn.taker.queue;
  taken : l.taker.taken ≡ bytes_in l.guest.log.items;
  slice : Slice l.fn.seat 0 l.seat;
  saw : l.seat.saw ≡ l.guest.log.items;
  stays : Stays l.fn.guest l.guest;
  intact : Intact l.fn.guest → Intact l.guest;
  kept : Intact l.fn.guest → (held : ℕ → Option (List ℕ)) → Kept held (pages_seen (view_of l.fn.guest)) l.fn.guest.bus.pages → Kept held (pages_seen (view_of l.guest)) l.guest.bus.pages;
  pages : l.guest.bus.pages ≡ l.fn.guest.bus.pages;
}
