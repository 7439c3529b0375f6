use Rattle.std.proofs.Common.{◌≡◌, ◌⊎◌, ℕ, ◌<◌, List, None, false, IfErr, OnOk, OnErr, refl, length, map, get_or, ap, sym, subst, ◌∙◌}
use Rattle.world.proofs.All.{Action, AreCutShort, AreFewer, AreTurned, Level, MayLose, OnlyPagesMove, SharesAre, SwapOuts, SwapOutsEnd, TenantIs, WhyStays, WorldIs, actions_of, moment_of, next_level_of, one_more, outline, pages_in, stat_of}
use Rattle.taxpolicy.proofs.Allotments.{each_target}
use Rattle.tenant.specs.declared.turning.Aim.TheVariants.{Kept}
use Rattle.world.proofs.Choices.{outs_or_end, same_around}
use Rattle.world.proofs.Turning.{all_may, turn_of}
use Rattle.world.proofs.world.World.level_turn.Goals as goal

pub swap_out_each-requires-clause-more : goal.swap_out_each-requires-clause-more
swap_out_each-requires-clause-more g c =
    let w = c.self.inside in
    let now = c.args.self.now in
    let plan = c.in_ok-plan.plan in
    let tax = c.args.tax.percent in
    let stats : c.deref.result.now ≡ map stat_of now.tenants = c.deref.ensures.value ∙ c.in_ok-stats.ensures ∙ ap (map stat_of) c.tenants.ensures in
    let planned : plan.actions.items ≡ actions_of plan.level tax w.frames (map stat_of now.tenants) = c.in_ok-plan.ensures.actions ∙ ap (actions_of plan.level tax w.frames) stats in
    let mid = c.turn_each.new.self.tenants in
    let set : c.set_level.new.self.tenants ≡ mid = ap (λ (x : WorldIs _). x.tenants) c.set_level.ensures in
    let turned : AreTurned plan.actions.items now.tenants c.in_ok-aims.aims.items mid = subst (λ (l : List Action). AreTurned l now.tenants c.in_ok-aims.aims.items mid) c.deref-2.ensures.value c.in_ok-aims.ensures.turned in
    subst (λ (l : List Action). (h : _) (t : TenantIs) (a : Action) → h < length c.set_level.new.self.tenants → MayLose (get_or l h a).swap_out (get_or c.set_level.new.self.tenants h t)) (sym c.deref-3.ensures.value)
    (subst (λ (ts : List TenantIs). (h : _) (t : TenantIs) (a : Action) → h < length ts → MayLose (get_or plan.actions.items h a).swap_out (get_or ts h t)) (sym set)
    (all_may plan.level tax w.frames now.tenants mid plan.actions.items c.in_ok-aims.aims.items planned (each_target tax w.frames (map stat_of now.tenants) c.args.tax.below) turned))

pub returns-clause-turn : goal.returns-clause-turn
returns-clause-turn g c =
    let w = c.self.inside in
    let now = c.args.self.now in
    let frames : w.frames ≡ now.frames = ap (λ (x : WorldIs _). x.frames) c.self.view_is in
    let level : w.level ≡ now.level = ap (λ (x : WorldIs _). x.level) c.self.view_is in
    let plan = c.in_ok-plan.plan in
    let tax = c.args.tax.percent in
    let new = c.swap_out_each.new.self in
    let mid = c.turn_each.new.self.tenants in
    let acts = actions_of plan.level tax now.frames (map stat_of now.tenants) in
    let stats : c.deref.result.now ≡ map stat_of now.tenants = c.deref.ensures.value ∙ c.in_ok-stats.ensures ∙ ap (map stat_of) c.tenants.ensures in
    let planned : plan.actions.items ≡ acts =
    c.in_ok-plan.ensures.actions ∙ ap (actions_of plan.level tax w.frames) stats ∙ ap (λ (n : ℕ). actions_of plan.level tax n (map stat_of now.tenants)) frames in
    let set : c.set_level.new.self.tenants ≡ mid = ap (λ (x : WorldIs _). x.tenants) c.set_level.ensures in
    let turned : AreTurned acts now.tenants c.in_ok-aims.aims.items mid =
    subst (λ (l : List Action). AreTurned l now.tenants c.in_ok-aims.aims.items mid) (c.deref-2.ensures.value ∙ planned) c.in_ok-aims.ensures.turned in
    let store = ap (λ (x : WorldIs _). x.store) c.set_level.ensures ∙ c.turn_each.ensures.around.store in
    let failed = g.S.SwapStore.failed in
    let given = c.deref-3.ensures.value ∙ planned in
    let e = c.swap_out_each.ensures in
    turn_of tax (failed new.store ≡ one_more (failed now.store)) now new (record { level = plan.level; aims = c.in_ok-aims.aims; refused = c.err-refused.result }) mid c.swap_out_each.result
    (c.in_ok-plan.ensures.level ∙ ap (λ (n : ℕ). next_level_of n w.frames w.level) c.free.ensures ∙ ap (λ (n : ℕ). next_level_of (length now.pool.free) n w.level) frames
    ∙ ap (λ (l : Level). next_level_of (length now.pool.free) now.frames l) level)
    (e.around.level ∙ ap (λ (x : WorldIs _). x.level) c.set_level.ensures)
    c.err-refused.ensures.value
    (each_target tax now.frames (map stat_of now.tenants) c.args.tax.below)
    turned
    (subst (λ (ts : List TenantIs). OnlyPagesMove ts new.tenants) set e.moves)
    (subst (λ (l : List Action). OnOk c.swap_out_each.result (AreFewer l (length mid) mid new.tenants)) given
    (subst (λ (ts : List TenantIs). OnOk c.swap_out_each.result (AreFewer c.deref-3.result.now (length ts) ts new.tenants)) set e.all))
    (subst (λ (l : List Action). OnErr c.swap_out_each.result (AreCutShort l mid new.tenants)) given
    (subst (λ (ts : List TenantIs). OnErr c.swap_out_each.result (AreCutShort c.deref-3.result.now ts new.tenants)) set e.short))
    (subst (λ s. IfErr c.swap_out_each.result (WhyStays new.slots (failed new.store ≡ one_more (failed s)))) store e.err)

pub returns-clause-by_words : goal.returns-clause-by_words
returns-clause-by_words g c =
    let s = g.S.SwapStore in
    let now = c.args.self.now in
    let set = c.set_level.new.self in
    let is = c.set_level.ensures in
    let around = c.turn_each.ensures.around in
    let words = g.R.Rng.stream c.args.rng.now in
    let m = moment_of words set in
    let m' = moment_of (g.R.Rng.stream c.swap_out_each.new.rng) c.swap_out_each.new.self in
    let e = c.swap_out_each.ensures in
    let all = length set.tenants in
    let none : Action = record { balloon = None; swap_out = 0; blocked = false } in
    record {
      turned = m;
      pages = λ h t inside.
          ap (λ (x : WorldIs _). outline (pages_in (get_or x.tenants h t))) is ∙ (c.in_ok-aims.ensures.turned.each h t none Kept inside).pages;
      around = same_around (moment_of words now) m refl (ap (λ (x : WorldIs _). x.pool) is ∙ around.pool) (ap (λ (x : WorldIs _). x.slots) is ∙ around.slots)
          (ap (λ (x : WorldIs _). x.shares.entries) is ∙ ap (λ (x : SharesAre). x.entries) around.shares);
      swaps = subst (λ (n : ℕ). (SwapOuts now.frames (s.slots now.store) 0 n m m') ⊎ (SwapOutsEnd now.frames (s.slots now.store) 0 n m m')) (ap (λ (x : WorldIs _). length x.tenants) is ∙ c.in_ok-aims.ensures.turned.count)
          (subst (λ (n : ℕ). (SwapOuts n (s.slots now.store) 0 all m m') ⊎ (SwapOutsEnd n (s.slots now.store) 0 all m m')) (ap (λ (x : WorldIs _). x.frames) is ∙ around.frames)
          (subst (λ (n : ℕ). (SwapOuts set.frames n 0 all m m') ⊎ (SwapOutsEnd set.frames n 0 all m m')) (ap (λ (x : WorldIs _). s.slots x.store) is ∙ ap s.slots around.store)
          (outs_or_end c.swap_out_each.result (SwapOuts set.frames (s.slots set.store) 0 all m m') (SwapOutsEnd set.frames (s.slots set.store) 0 all m m') e.outs e.end)));
    }
