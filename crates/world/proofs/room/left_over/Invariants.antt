use Rattle.std.proofs.Common.{◌≡◌, ◌+◌, ◌-◌, length, take, sum_by}
use Rattle.world.proofs.All.{TenantIs, pages_in}
use Rattle.world.proofs.room.left_over.Given as goal

-- what is left beside that of the guests so far
abbrev pub invariant-loop-tenant : goal.invariant-loop-tenant
invariant-loop-tenant l = record {
  frames : l.frames + sum_by (λ (t : TenantIs). t.minimum + 1) (take l.tenant-index l.tenants) ≡ l.fn.frames;
  slots : l.slots + sum_by (λ t. length (pages_in t) - t.minimum) (take l.tenant-index l.tenants) ≡ l.fn.slots;
}
