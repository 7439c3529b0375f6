use Rattle.std.proofs.Common.{◌≡◌, ℕ, ◌-◌, ◌<◌, ◌≤◌, ◌++◌, length}
use Rattle.world.proofs.All.{AroundStays, GuestsStay, log_at, moment_of, steps_for}
use Rattle.world.proofs.Choices.{Made}
use Rattle.world.proofs.world.World.run_steps.Given as goal

-- the log has the steps so far
abbrev pub invariant-loop-steps : goal.invariant-loop-steps
invariant-loop-steps g l = record {
  inside : l.g < length l.self.tenants;
  few : l.steps ≤ l.count;
  logs : (h : ℕ) → log_at l.self.tenants h ≡ log_at l.fn.self.tenants h ++ steps_for h l.g l.steps;
  made : Made l.fn.self.frames (g.S.SwapStore.slots l.fn.self.store) (g.S.SwapStore.true_to_digests l.fn.self.store) l.tax.percent l.g (moment_of (g.R.Rng.stream l.fn.rng) l.fn.self) (moment_of (g.R.Rng.stream l.rng) l.self);
  guests : GuestsStay l.fn.self.tenants l.self.tenants;
  failed : g.S.SwapStore.failed l.self.store ≡ g.S.SwapStore.failed l.fn.self.store;
  around : AroundStays g.S.SwapStore l.fn.self l.self;
}

-- each turn makes a step or is the last
abbrev pub decreases-loop-steps : goal.decreases-loop-steps
decreases-loop-steps g l = l.count - l.steps
