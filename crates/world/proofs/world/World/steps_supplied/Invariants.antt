use Rattle.std.proofs.Common.{◌≡◌, ℕ, ◌<◌, length, slice_index_or}
use Rattle.world.proofs.All.{AroundStays, GuestsStay, TenantIs, log_at, moment_of}
use Rattle.world.proofs.Choices.{Supplied}
use Rattle.world.proofs.Runs.{IsReady}
use Rattle.world.proofs.world.World.steps_supplied.Given as goal

-- no log has changed, and after the first turn a page that the step accesses has a frame of its own
abbrev pub invariant-loop : goal.invariant-loop
invariant-loop g l = record {
  inside : l.g < length l.self.tenants;
  logs : (h : ℕ) → log_at l.self.tenants h ≡ log_at l.fn.self.tenants h;
  supplied : Supplied l.fn.self.frames (g.S.SwapStore.slots l.fn.self.store) (g.S.SwapStore.true_to_digests l.fn.self.store) l.tax.percent l.g l.counter (moment_of (g.R.Rng.stream l.fn.rng) l.fn.self) (moment_of (g.R.Rng.stream l.rng) l.self);
  guests : GuestsStay l.fn.self.tenants l.self.tenants;
  failed : g.S.SwapStore.failed l.self.store ≡ g.S.SwapStore.failed l.fn.self.store;
  around : AroundStays g.S.SwapStore l.fn.self l.self;
  ready : g.S.SwapStore.true_to_digests l.fn.self.store → 0 < l.counter → (t : TenantIs) → IsReady (slice_index_or l.self.tenants l.g t);
}
