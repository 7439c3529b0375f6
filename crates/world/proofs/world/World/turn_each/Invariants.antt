use Rattle.std.proofs.Common.{◌≡◌, ℕ, ◌<◌, ◌≤◌, length, get_or, vec_len, vec_capacity}
use Rattle.world.proofs.All.{Action, Aim, IsTurned, SameAround, SameFrom, TenantIs}
use Rattle.world.proofs.world.World.turn_each.Given as goal

-- the guests so far are turned, and the others are as they were
abbrev pub invariant-loop-g : goal.invariant-loop-g
invariant-loop-g w l = record {
  count : length l.self.tenants ≡ length l.fn.self.tenants;
  aims : length l.aims.items ≡ l.g;
  len : vec_len l.aims ≡ l.g;
  room : length l.actions ≤ vec_capacity l.aims;
  turned : (h : ℕ) (t : TenantIs) (d : Action) (a : Aim) → h < l.g → IsTurned (get_or l.actions h d) (get_or l.fn.self.tenants h t) (get_or l.aims.items h a) (get_or l.self.tenants h t);
  others : SameFrom l.g l.fn.self.tenants l.self.tenants;
  around : SameAround l.fn.self l.self;
}
