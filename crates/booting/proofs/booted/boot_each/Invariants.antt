use Rattle.std.proofs.Common.{◌≡◌, ◌+◌, ◌≤◌, ℕ, All, [], length, map, sum_by, take, vec_len, vec_capacity}
use Rattle.frames.specs.Counts.{below, count_of}
use Rattle.sharetab.specs.Entries.{EntriesAre}
use Rattle.page_moves.specs.Books.{Books}
use Rattle.guest.specs.Guests.{Intact}
use Rattle.booting.specs.Boots.{AreAtBoot, KeepsPages, pages_in}
use Rattle.booting.specs.Places.{FramesComeFirst, SlotsComeInOrder}
use Rattle.booting.specs.Stores.{StoreStays}
use Rattle.booting.proofs.Guests.{slots_of}
use Rattle.booting.proofs.booted.boot_each.Given as goal

-- the guests so far are booted
abbrev pub invariant-loop-guest : goal.invariant-loop-guest
invariant-loop-guest g l = record {
  at_boot : AreAtBoot l.log_runs (take l.guest-index l.asked) l.guests.items;
  intact : All Intact l.guests.items;
  kept : All (KeepsPages (g.S.SwapStore.held l.store)) l.guests.items;
  exact : (frames : ℕ) (es : EntriesAre) → Books frames (g.S.SwapStore.slots l.fn.store) [] es l.fn.pool l.fn.slots
      → Books frames (g.S.SwapStore.slots l.fn.store) (map pages_in l.guests.items) es l.pool l.slots;
  first : FramesComeFirst l.pool (map pages_in l.guests.items);
  in_order : SlotsComeInOrder l.slots (map pages_in l.guests.items);
  each_slot : (k : ℕ) → count_of k l.slots.free + slots_of k l.guests.items ≡ below k (g.S.SwapStore.slots l.fn.store);
  taken : length l.fn.pool.free + length l.fn.slots.free ≤ length l.pool.free + length l.slots.free + sum_by (λ n. n.pages) (take l.guest-index l.asked);
  no_failure : g.S.SwapStore.failed l.store ≡ g.S.SwapStore.failed l.fn.store;
  stays : StoreStays g.S.SwapStore l.fn.store l.store;
  len : vec_len l.guests ≡ l.guest-index;
  room : vec_capacity l.guests ≡ vec_capacity l.fn.guests;
}
