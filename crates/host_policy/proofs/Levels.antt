-- What lies under a policy's lock after calls: the levels that turns reach.
use Rattle.std.proofs.Common.{◌≡◌, ℕ, List, [], ◌∷◌, Ok, Err, IfOk, OnErr, length, refl, ap, sym, subst, ◌∙◌}
use Rattle.std.specs.Prelude.{Result}
use Rattle.std.specs.declared.alloc.AllocError.{AllocError}
use Rattle.std.proofs.lemmas.List.Elements.{All-nil, All-cons}
use Rattle.shared_pool.specs.Pools.{PassIs}
use Rattle.shared_pool.specs.Resting.{RestingIs}
use Rattle.shared_pool.specs.Balance.{Stands}
use Rattle.machine_memory.specs.Memories.{MemoryIs}
use Rattle.reclaim.specs.declared.level.Level.{Level}
use Rattle.reclaim.specs.declared.level.Level.TheVariants.{High}
use Rattle.reclaim.specs.declared.turn.Plan.{Plan}
use Rattle.reclaim.specs.Levels.{next_level_of}
use Rattle.host_policy.specs.declared.policy.Key.{Key}
use Rattle.host_policy.specs.declared.policy.Locked.{Locked}
use Rattle.host_policy.specs.Policies.{PolicyIs, IsPassAs, IsPolicyOf, WereFreeBy, IsReached, LiesUnder, WasReached}

-- before any turn
pub reached_at_boot : (first : PassIs) (frames : ℕ) (level : Level) → level ≡ High → IsReached first frames level
reached_at_boot first frames level is = record { counts = []; were_free = All-nil (WereFreeBy first); level_is = is }

-- after one more turn
pub reached_more : (first : PassIs) (frames free : ℕ) (before level : Level) → IsReached first frames before → WereFreeBy first free → level ≡ next_level_of free frames before → IsReached first frames level
reached_more first frames free before level was free_then is = record {
  counts = free ∷ was.counts;
  were_free = All-cons (WereFreeBy first) free was.counts free_then was.were_free;
  level_is = is ∙ ap (next_level_of free frames) was.level_is;
}

-- where the pass and the level are as they were
pub lies_still : (key : Key) (l l' : Locked) → LiesUnder key l → l'.pass ≡ l.pass → l'.state.level ≡ l.state.level → LiesUnder key l'
lies_still key l l' lies pass level = record {
  pass = subst (IsPassAs key.first.value) (sym pass) lies.pass;
  level = subst (IsReached key.first.value key.frames) (sym level) lies.level;
}

-- at boot
pub lies_at_boot : (key : Key) (l : Locked) → l.pass ≡ key.first.value → l.state.level ≡ High → LiesUnder key l
lies_at_boot key l pass level = record {
  pass = subst (IsPassAs key.first.value) (sym pass) (record { pool = refl; ledger = refl; whole = refl });
  level = reached_at_boot key.first.value key.frames l.state.level level;
}

-- what a count of the free frames tells
pub were_free : (first pass : PassIs) (count : ℕ) → IsPassAs first pass → ((free : List RestingIs) × (length free ≡ count) × Stands pass.hand free) → WereFreeBy first count
were_free first pass count its free = record { pass = pass; its_pool = its; free = free.0; stood = free.2; count_is = free.1 }

-- after a turn, or one for which there was no memory
pub lies_after_turn : (key : Key) (l l' : Locked) (free : ℕ) (result : Result Plan AllocError) → LiesUnder key l → l'.pass ≡ l.pass → WereFreeBy key.first.value free
    → IfOk result (λ plan. plan.level ≡ next_level_of free key.frames l.state.level) → IfOk result (λ plan. l'.state ≡ record l.state { level = plan.level })
    → OnErr result (l'.state ≡ l.state) → LiesUnder key l'
lies_after_turn key l l' free (Ok plan) lies pass were level turned same = record {
  pass = subst (IsPassAs key.first.value) (sym pass) lies.pass;
  level = reached_more key.first.value key.frames free l.state.level l'.state.level lies.level were (ap (λ s. s.level) turned ∙ level);
}
lies_after_turn key l l' free (Err e) lies pass were level turned same = lies_still key l l' lies pass (ap (λ s. s.level) same)

-- the same of a policy for a memory
pub was_reached : {Store : Type 0} (memory : MemoryIs Store) (policy : PolicyIs) (level : Level) → IsPolicyOf memory policy → IsReached policy.first policy.frames level → WasReached memory level
was_reached memory policy level of reached = record {
  first = policy.first;
  its_pass = of.pass;
  by_turns = subst (λ (n : ℕ). IsReached policy.first n level) of.frames reached;
}

pub reached_as : (first : PassIs) (frames frames' : ℕ) (level : Level) → frames ≡ frames' → IsReached first frames level → IsReached first frames' level
reached_as first frames frames' level same reached = subst (λ (n : ℕ). IsReached first n level) same reached
