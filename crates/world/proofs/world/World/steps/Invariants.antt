use Rattle.std.proofs.Common.{◌≡◌, ℕ, ◌-◌, ◌<◌, ◌≤◌, ◌++◌, length, map}
use Rattle.world.proofs.All.{Changes, NoneNeeds, OnlyBooksChange, Stays, TenantIs, boot_of, log_at, pages_at, run, steps_for, steps_of, view_at}
use Rattle.world.proofs.world.World.steps.Given as goal

-- the log has the steps so far, and before the first nothing has happened
abbrev pub invariant-loop-made : goal.invariant-loop-made
invariant-loop-made g l = record {
  inside : l.g < length l.self.tenants;
  few : l.made ≤ l.count;
  none : l.made ≡ 0 → l.self ≡ l.fn.self;
  logs : (h : ℕ) → log_at l.self.tenants h ≡ log_at l.fn.self.tenants h ++ steps_for h l.g l.made;
  view : (t : TenantIs) → view_at l.self l.g t ≡ run (steps_of 0 l.made) (view_at l.fn.self l.g t);
  needs_none : g.S.SwapStore.true_to_digests l.fn.self.store → (t : TenantIs) → NoneNeeds l.made (view_at l.fn.self l.g t) (pages_at l.fn.self l.g t) (pages_at l.self l.g t);
  boots : map boot_of l.self.tenants ≡ map boot_of l.fn.self.tenants;
  stays : Changes Stays l.g l.fn.self.tenants l.self.tenants;
  around : OnlyBooksChange l.fn.self l.self;
}

-- each turn makes a step or is the last
abbrev pub decreases-loop-made : goal.decreases-loop-made
decreases-loop-made g l = l.count - l.made
