use Rattle.std.proofs.Common.{vec_len}
use Rattle.world.proofs.world.close_parts.Given as goal

abbrev pub decreases-loop-tenant : goal.decreases-loop-tenant
decreases-loop-tenant l = vec_len l.tenants
