-- What a turn asks of guests of which numbers were found.
use Rattle.std.proofs.Common.{◌≡◌, ℕ, zero, suc, ◌*◌, ◌<◌, ◌≤◌, List, [], ◌∷◌, Ok, Err, IfSome, IfOk, length, get_or, sym, ◌∙◌, subst, arith, lit<, lit≤}
use Rattle.std.specs.Prelude.{Result}
use Rattle.std.specs.declared.alloc.AllocError.{AllocError}
use Rattle.taxpolicy.specs.declared.stat.Stat.{Stat}
use Rattle.reclaim.specs.declared.level.Level.{Level}
use Rattle.reclaim.specs.declared.turn.Action.{Action}
use Rattle.reclaim.specs.declared.turn.Plan.{Plan}
use Rattle.reclaim.specs.Plans.{action_of, actions_by, actions_of}
use Rattle.taxpolicy.specs.Targets.{targets_of}
use Rattle.machine_memory.specs.Memories.{MemoryIs}
use Rattle.cell.specs.declared.cell.Cell.{Cell}
use Rattle.host_policy.specs.Numbers.{AreStatsOf}
use Rattle.host_policy.specs.Turns.{IsPlan, IsPlanFor}

no_stat : Stat
no_stat = record { shares = 0; pages = 0; resident = 0; given = 0; active = 0; sample = 1; minimum = 0; sampled = lit< tt; touched = lit≤ tt }

-- what a guest is asked for is at most three quarters of its pages
abbrev pub OwesNoMore : Type 0
OwesNoMore = (level : Level) (s : Stat) (target : ℕ) → IfSome (action_of level s target).balloon (λ (pages : ℕ). 4 * pages ≤ 3 * s.pages)

abbrev AtMost : List Action → ℕ → Action → ℕ → Type 0
AtMost actions g a pages = IfSome (get_or actions g a).balloon (λ (n : ℕ). 4 * n ≤ 3 * pages)

each_at_most : OwesNoMore → (level : Level) (stats : List Stat) (targets : List ℕ) (g : ℕ) (a : Action) (s : Stat) → g < length (actions_by level stats targets)
    → AtMost (actions_by level stats targets) g a (get_or stats g s).pages
each_at_most owes level [] targets g a s below = absurd (omega arith)
each_at_most owes level (x ∷ xs) [] g a s below = absurd (omega arith)
each_at_most owes level (x ∷ xs) (t ∷ ts) zero a s below = owes level x t
each_at_most owes level (x ∷ xs) (t ∷ ts) (suc g) a s below = each_at_most owes level xs ts g a s (omega arith)

pub asked_at_most : {S : Type 0} → OwesNoMore → (memory : MemoryIs S) (cells : List (Cell S)) (plan : Plan) → IsPlanFor memory cells plan → length plan.actions.items ≡ length cells
    → (g : ℕ) (a : Action) (c : Cell S) → g < length cells → AtMost plan.actions.items g a (get_or cells g c).front.pages
asked_at_most owes memory cells plan its count g a c below =
    let tax : ℕ = its.plan_is.tax in
    let total : ℕ = memory.books.key.frames in
    let same : plan.actions.items ≡ actions_of plan.level tax total its.stats = its.plan_is.actions in
    let there : g < length plan.actions.items = omega arith in
    let by_plan : AtMost plan.actions.items g a (get_or its.stats g no_stat).pages =
    subst (λ (actions : List Action). AtMost actions g a (get_or its.stats g no_stat).pages) (sym same)
    (each_at_most owes plan.level its.stats (targets_of tax total its.stats) g a no_stat (subst (λ (actions : List Action). g < length actions) same there)) in
    subst (λ (pages : ℕ). AtMost plan.actions.items g a pages) (its.found.each g c no_stat below).pages by_plan

pub planned : {S : Type 0} (memory : MemoryIs S) (cells : List (Cell S)) (stats : List Stat) (result : Result Plan AllocError) → AreStatsOf cells stats → IfOk result (IsPlan memory stats) → IfOk result (IsPlanFor memory cells)
planned memory cells stats (Ok plan) found its = record { stats = stats; found = found; plan_is = its }
planned memory cells stats (Err e) found its = its

pub counted : (n m : ℕ) (result : Result Plan AllocError) → n ≡ m → IfOk result (λ (plan : Plan). length plan.actions.items ≡ n) → IfOk result (λ (plan : Plan). length plan.actions.items ≡ m)
counted n m (Ok plan) same its = its ∙ same
counted n m (Err e) same its = its

pub all_at_most : {S : Type 0} → OwesNoMore → (memory : MemoryIs S) (cells : List (Cell S)) (result : Result Plan AllocError) → IfOk result (IsPlanFor memory cells) → IfOk result (λ (plan : Plan). length plan.actions.items ≡ length cells)
    → IfOk result (λ (plan : Plan). (g : ℕ) (a : Action) (c : Cell S) → g < length cells → AtMost plan.actions.items g a (get_or cells g c).front.pages)
all_at_most owes memory cells (Ok plan) its count = asked_at_most owes memory cells plan its count
all_at_most owes memory cells (Err e) its count = its
