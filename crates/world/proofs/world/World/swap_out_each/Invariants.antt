use Rattle.std.proofs.Common.{◌≡◌, length}
use Rattle.world.proofs.All.{AreFewer, AroundStays, OnlyPagesMove, SameFrom, SwapOuts, moment_of}
use Rattle.world.proofs.world.World.swap_out_each.Given as goal

-- the guests so far have lost their pages, the others are as they were, and no call of the store has failed
abbrev pub invariant-loop-g : goal.invariant-loop-g
invariant-loop-g w l = record {
  count : length l.self.tenants ≡ length l.fn.self.tenants;
  moves : OnlyPagesMove l.fn.self.tenants l.self.tenants;
  fewer : AreFewer l.actions l.g l.fn.self.tenants l.self.tenants;
  others : SameFrom l.g l.fn.self.tenants l.self.tenants;
  outs : SwapOuts l.fn.self.frames (w.S.SwapStore.slots l.fn.self.store) 0 l.g (moment_of (w.R.Rng.stream l.fn.rng) l.fn.self) (moment_of (w.R.Rng.stream l.rng) l.self);
  failed : w.S.SwapStore.failed l.self.store ≡ w.S.SwapStore.failed l.fn.self.store;
  around : AroundStays w.S.SwapStore l.fn.self l.self;
}
