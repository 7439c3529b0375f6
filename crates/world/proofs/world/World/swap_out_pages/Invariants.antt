use Rattle.std.proofs.Common.{◌≡◌, ◌<◌, length}
use Rattle.world.proofs.All.{AroundStays, Changes, LosesPages, SwapOuts, moment_of}
use Rattle.world.proofs.world.World.swap_out_pages.Given as goal

-- one page has left its frame in each turn so far, and no call of the store has failed
abbrev pub invariant-loop : goal.invariant-loop
invariant-loop g l = record {
  inside : l.g < length l.self.tenants;
  loses : Changes (LosesPages l.counter) l.g l.fn.self.tenants l.self.tenants;
  outs : SwapOuts l.fn.self.frames (g.S.SwapStore.slots l.fn.self.store) l.g l.g (moment_of (g.R.Rng.stream l.fn.rng) l.fn.self) (moment_of (g.R.Rng.stream l.rng) l.self);
  failed : g.S.SwapStore.failed l.self.store ≡ g.S.SwapStore.failed l.fn.self.store;
  around : AroundStays g.S.SwapStore l.fn.self l.self;
}
