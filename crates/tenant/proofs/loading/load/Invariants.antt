use Rattle.std.proofs.Common.{◌≡◌, ◌↔◌, ◌+◌, ◌≤◌, [], length}
use Rattle.sharetab.specs.Entries.{EntriesAre}
use Rattle.page_moves.specs.Moves.{Conserves, Reads}
use Rattle.tenant.specs.Lent.{UsedStay}
use Rattle.tenant.specs.Loading.{AreUntouched, AreLoaded, FramesFirst, SlotsRise, NonePrivate}
use Rattle.guest.specs.Guests.{without_pages}
use Rattle.tenant.proofs.loading.load.Given as goal

abbrev pub invariant-loop-p : goal.invariant-loop-p
invariant-loop-p g l = record {
  conserves : (entries : EntriesAre) →
      Conserves l.fn.guest.bus.pages l.fn.pool l.fn.slots entries l.guest.bus.pages l.pool l.slots entries;
  reads : (entries : EntriesAre) → Reads entries l.fn.guest.bus.pages → Reads entries l.guest.bus.pages;
  used : UsedStay l.fn.slots (g.S.SwapStore.held l.fn.store) (g.S.SwapStore.held l.store);
  rest : without_pages l.guest ≡ without_pages l.fn.guest;
  count : length l.guest.bus.pages ≡ length l.fn.guest.bus.pages;
  untouched : AreUntouched l.image l.p l.guest.bus.pages;
  loaded : AreLoaded (g.S.SwapStore.held l.store) l.image (length l.fn.guest.bus.pages) l.p l.guest.bus.pages;
  no_frames : l.fn.pool.free ≡ [] → l.pool.free ≡ [];
  none_private : l.fn.pool.free ≡ [] → NonePrivate l.guest.bus.pages;
  taken : length l.fn.pool.free + length l.fn.slots.free ≤ length l.pool.free + length l.slots.free + l.p;
  no_failure : g.S.SwapStore.failed l.store ≡ g.S.SwapStore.failed l.fn.store;
  frames_first : FramesFirst l.pool l.guest.bus.pages;
  slots_rise : SlotsRise l.slots l.guest.bus.pages;
  slots : g.S.SwapStore.slots l.store ≡ g.S.SwapStore.slots l.fn.store;
  honest : g.S.SwapStore.honest l.store ↔ g.S.SwapStore.honest l.fn.store;
  true_to_digests : g.S.SwapStore.true_to_digests l.store ↔ g.S.SwapStore.true_to_digests l.fn.store;
}
