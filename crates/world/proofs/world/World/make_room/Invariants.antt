use Rattle.std.proofs.Common.{◌≡◌}
use Rattle.world.proofs.All.{AroundStays, OnlyPagesMove, SparedStay, all_resident, moment_of}
use Rattle.world.proofs.Choices.{Evicted}
use Rattle.world.proofs.world.World.make_room.Given as goal

-- only pages have moved, of victims while no frame was free, and no call of the store has failed
abbrev pub invariant-loop-alloc : goal.invariant-loop-alloc
invariant-loop-alloc g l = record {
  moves : OnlyPagesMove l.fn.self.tenants l.self.tenants;
  spared : SparedStay l.spared l.fn.self.tenants l.self.tenants;
  evicted : Evicted l.fn.self.frames (g.S.SwapStore.slots l.fn.self.store) l.tax.percent l.spared (moment_of (g.R.Rng.stream l.fn.rng) l.fn.self) (moment_of (g.R.Rng.stream l.rng) l.self);
  failed : g.S.SwapStore.failed l.self.store ≡ g.S.SwapStore.failed l.fn.self.store;
  around : AroundStays g.S.SwapStore l.fn.self l.self;
}

-- each turn a page of a guest has left its frame
abbrev pub decreases-loop-alloc : goal.decreases-loop-alloc
decreases-loop-alloc g l = all_resident l.self.tenants
