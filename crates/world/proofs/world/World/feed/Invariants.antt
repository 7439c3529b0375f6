use Rattle.std.proofs.Common.{◌≡◌, ℕ, ◌<◌, ◌++◌, length, take}
use Rattle.world.proofs.All.{Changes, SameAround, Stays, inputs_for, log_at}
use Rattle.world.proofs.world.World.feed.Given as goal

-- the log has the bytes so far
abbrev pub invariant-loop-count : goal.invariant-loop-count
invariant-loop-count g l = record {
  inside : l.g < length l.self.tenants;
  logs : (h : ℕ) → log_at l.self.tenants h ≡ log_at l.fn.self.tenants h ++ inputs_for h l.g (take l.count l.bytes);
  stays : Changes Stays l.g l.fn.self.tenants l.self.tenants;
  around : SameAround l.fn.self l.self;
}
