-- The level of free memory.
use Rattle.std.proofs.Common.{◌≡◌, ℕ, subst}
use Rattle.reclaim.specs.declared.level.Level.{Level}
use Rattle.machine_memory.specs.Memories.{MemoryIs}
use Rattle.host_policy.specs.Policies.{PolicyIs, IsPolicyOf, IsReached, WasReached}

-- a level that turns of the memory's policy have reached
pub was_reached : {S : Type 0} (memory : MemoryIs S) (policy : PolicyIs) (level : Level) → IsPolicyOf memory policy → IsReached policy.first policy.frames level → WasReached memory level
was_reached memory policy level its is = record { first = policy.first; its_pass = its.pass; by_turns = subst (λ (n : ℕ). IsReached policy.first n level) its.frames is }
