use Rattle.std.proofs.Common.{◌≡◌, ◌≤◌, map, take, length, vec_len, vec_capacity}
use Rattle.world.proofs.All.{stat_of}
use Rattle.world.proofs.faulting.stats_of.Given as goal

-- what is known of the guests so far
abbrev pub invariant-loop-tenant : goal.invariant-loop-tenant
invariant-loop-tenant l = record {
  stats : l.stats.items ≡ map stat_of (take l.tenant-index l.tenants);
  len : vec_len l.stats ≡ l.tenant-index;
  room : length l.tenants ≤ vec_capacity l.stats;
}
