-- Turns of the policy.
use Rattle.std.proofs.Common.{ℕ, zero, suc, ◌≡◌, ◌+◌, ◌<◌, ◌≤◌, inl, inr, List, [], ◌∷◌, ◌++◌, length, get_or, map, min, Option, Some, None, Result, Ok, Err, IfOk, IfErr, OnOk, OnErr, IfSome, false, refl, sym, ap, subst, ◌∙◌, arith, length-set, append-nil}
use Rattle.std.proofs.Math.Nat.{min-eq_left, min-eq_right, min-le_right}
use Rattle.std.proofs.lemmas.Bool.{cases_eq, cases_lt}
use Rattle.std.proofs.lemmas.List.{get_or-set_other, get_or_past, get_or_append_left, length-map}
use Rattle.std.specs.List.{AllZip}
use Rattle.std.specs.Result.{result_err}
use Rattle.world.specs.All.{Action, Aim, AreCutShort, AreFewer, AreSwappedOut, AreTurned, Changes, EvictError, FreeList, IsAimed, IsEvicted, IsTurn, IsTurned, Item, Level, LosesPages, MayLose, OnlyPagesMove, Page, PagesMove, SameFrom, SameNumbers, Stat, TenantIs, Turn, WhyStays, WorldIs, action_of, actions_by, actions_in, actions_of, aim_items, boot_of, items_of, log_at, next_level_of, outline, pages_in, private_pages, resident_pages, shared_pages, stat_of, turn_items}
use Rattle.guest_pages.proofs.Outlines.{outline_private, outline_shared}
use Rattle.taxpolicy.specs.Targets.{IsTarget, targets_of}
use Rattle.reclaim.specs.declared.level.Level.TheVariants as level
use Rattle.tenant.specs.declared.moves.EvictError.TheVariants.{NoSwap, SwapWrite}
use Rattle.tenant.specs.declared.turning.Aim.TheVariants as aim
use Rattle.world.proofs.Worlds.{get_last, its_log, log_past, changes_then}
use Rattle.world.proofs.Sampling.{same_map}
use Rattle.world.proofs.Victims.{some_tenant, one_less, none_free, only_pages, pages_then, stays_beside, map_at}

-- ---- why a page stays

pub still_why : (old new : FreeList) (failed : Type 0) (e : EvictError) → SameNumbers old new → WhyStays old failed e → WhyStays new failed e
still_why old new failed NoSwap same why = none_free old new why same
still_why old new failed SwapWrite same why = (some new.free refl, why.1)
  where
    some : (xs : List ℕ) → new.free ≡ xs → 0 < length new.free
    some [] is = absurd (omega (arith, why.0, ap length (none_free new old is (record { numbers = λ k. sym (same.numbers k); out = sym same.out }))))
    some (x ∷ xs) is = omega (arith, ap length is)

pub still_err : {T : Type 0} (r : Result T EvictError) (old new : FreeList) (failed : Type 0) → OnErr r (SameNumbers old new) → IfErr r (WhyStays old failed) → IfErr r (WhyStays new failed)
still_err (Ok x) old new failed same why = tt
still_err (Err e) old new failed same why = still_why old new failed e same why

pub on_err : {T E P : Type 0} (r : Result T E) → P → OnErr r P
on_err (Ok x) p = tt
on_err (Err e) p = p

-- ---- pages of one guest

pub loses_one : (g p : ℕ) (ts ts' : List TenantIs) (slots : FreeList) → Changes PagesMove g ts ts' → ((t : TenantIs) → p < length (pages_in (get_or ts g t)))
    → ((t : TenantIs) → IsEvicted p (pages_in (get_or ts g t)) (pages_in (get_or ts' g t)) slots) → Changes (LosesPages 1) g ts ts'
loses_one g p ts ts' slots c there evicted = record {
  one = c.one;
  so = λ t. record { moves = c.so t; fewer = one_less p (pages_in (get_or ts g t)) (pages_in (get_or ts' g t)) slots (there t) (evicted t) };
}

pub loses_none : (t : TenantIs) → LosesPages 0 t t
loses_none t = record { moves = record { beside = refl; count = refl }; fewer = omega arith }

pub loses_more : (m n : ℕ) (t u v : TenantIs) → LosesPages m t u → LosesPages n u v → LosesPages (m + n) t v
loses_more m n t u v a b = record {
  moves = record { beside = b.moves.beside ∙ a.moves.beside; count = b.moves.count ∙ a.moves.count };
  fewer = omega (arith, a.fewer, b.fewer);
}

pub one_loses_more : (m n g : ℕ) (ts mid ts' : List TenantIs) → Changes (LosesPages m) g ts mid → Changes (LosesPages n) g mid ts' → Changes (LosesPages (m + n)) g ts ts'
one_loses_more m n g ts mid ts' a b = changes_then (LosesPages m) (LosesPages n) (LosesPages (m + n)) (loses_more m n) g ts mid ts' a b

same_minimum : (t t' : TenantIs) → PagesMove t t' → t'.minimum ≡ t.minimum
same_minimum t t' m = ap (λ (u : TenantIs). u.minimum) m.beside

-- a guest that has not lost all the pages yet which it may lose has more than it always keeps
pub may_lose_one : (k count : ℕ) (t t' : TenantIs) → k < count → MayLose count t → LosesPages k t t' → t'.minimum < resident_pages (pages_in t')
may_lose_one k count t t' less may lost =
    let r = resident_pages (pages_in t) in
    elim (cases_lt t.minimum r) [
      | inl more ↦
          let least : min t.minimum r ≡ t.minimum = min-eq_left (omega (arith, more)) in
          omega (arith, less, may, lost.fewer, least, same_minimum t t' lost.moves)
      | inr few ↦
          let all : min t.minimum r ≡ r = min-eq_right (omega (arith, few)) in
          absurd (omega (arith, less, may, all))
    ]

-- ---- one guest after another

module _ (g : ℕ) (ts mid ts' : List TenantIs) (how : TenantIs → TenantIs → Type 0) (inside : g < length ts) (count : length mid ≡ length ts) (same : SameFrom g ts mid) (c : Changes how g mid ts') where
  pub next_count : (t : TenantIs) → length ts' ≡ length ts
  next_count t = omega (arith, count, ap length (c.one t), length-set mid g (get_or ts' g t))

  pub others_same : SameFrom (g + 1) ts ts'
  others_same h t past =
      ap (λ (l : List TenantIs). get_or l h t) (c.one t) ∙ get_or-set_other mid g h (get_or ts' g t) t (λ e. absurd (omega (arith, past, e))) ∙ same h t (omega (arith, past))

  pub before_same : (h : ℕ) (t : TenantIs) → h < g → get_or ts' h t ≡ get_or mid h t
  before_same h t below = ap (λ (l : List TenantIs). get_or l h t) (c.one t) ∙ get_or-set_other mid g h (get_or ts' g t) t (λ e. absurd (omega (arith, below, e)))

  pub its_how : (t : TenantIs) → how (get_or ts g t) (get_or ts' g t)
  its_how t = subst (λ (u : TenantIs). how u (get_or ts' g t)) (same g t (omega arith)) (c.so t)

pub same_all : (ts : List TenantIs) (g : ℕ) → SameFrom g ts ts
same_all ts g h t past = refl

-- ---- what is done beside swapping out

one_aim : (made : List Aim) (a d : Aim) (k : ℕ) → k ≡ length made → get_or (made ++ a ∷ []) k d ≡ a
one_aim made a d k is = ap (λ (n : ℕ). get_or (made ++ a ∷ []) n d) is ∙ get_last made a d

-- one guest more is turned
pub turned_more : (g : ℕ) (actions : List Action) (ts mid ts' : List TenantIs) (made : List Aim) (a : Aim) (action : Action) → g < length ts → length mid ≡ length ts → length made ≡ g
    → ((d : Action) → get_or actions g d ≡ action) → Changes (λ t t'. IsTurned action t a t') g mid ts' → SameFrom g ts mid
    → ((h : ℕ) (t : TenantIs) (d : Action) (b : Aim) → h < g → IsTurned (get_or actions h d) (get_or ts h t) (get_or made h b) (get_or mid h t))
    → (h : ℕ) (t : TenantIs) (d : Action) (b : Aim) → h < g + 1 → IsTurned (get_or actions h d) (get_or ts h t) (get_or (made ++ a ∷ []) h b) (get_or ts' h t)
turned_more g actions ts mid ts' made a action inside count long is c same before h t d b below = elim (cases_eq h g) [
  | inl e ↦
      subst (λ (k : ℕ). IsTurned (get_or actions k d) (get_or ts k t) (get_or (made ++ a ∷ []) k b) (get_or ts' k t)) (sym e)
      (subst (λ (x : Action). IsTurned x (get_or ts g t) (get_or (made ++ a ∷ []) g b) (get_or ts' g t)) (sym (is d))
      (subst (λ (x : Aim). IsTurned action (get_or ts g t) x (get_or ts' g t)) (sym (one_aim made a b g (sym long)))
      (its_how g ts mid ts' (λ t t'. IsTurned action t a t') inside count same c t)))
  | inr apart ↦
      let less : h < g = omega (arith, below, apart) in
      subst (λ (x : Aim). IsTurned (get_or actions h d) (get_or ts h t) x (get_or ts' h t)) (sym (get_or_append_left made (a ∷ []) b h (omega (arith, less, long))))
      (subst (λ (u : TenantIs). IsTurned (get_or actions h d) (get_or ts h t) (get_or made h b) u) (sym (before_same g ts mid ts' (λ t t'. IsTurned action t a t') inside count same c h t less))
      (before h t d b less))
]

-- ---- pages of all guests

-- one guest more has lost its pages
pub fewer_more : (g : ℕ) (actions : List Action) (ts mid ts' : List TenantIs) (action : Action) → g < length ts → length mid ≡ length ts → ((d : Action) → get_or actions g d ≡ action)
    → Changes (LosesPages action.swap_out) g mid ts' → SameFrom g ts mid → AreFewer actions g ts mid → AreFewer actions (g + 1) ts ts'
fewer_more g actions ts mid ts' action inside count is c same before h t d below = elim (cases_eq h g) [
  | inl e ↦
      subst (λ (k : ℕ). LosesPages (get_or actions k d).swap_out (get_or ts k t) (get_or ts' k t)) (sym e)
      (subst (λ (x : Action). LosesPages x.swap_out (get_or ts g t) (get_or ts' g t)) (sym (is d)) (its_how g ts mid ts' (LosesPages action.swap_out) inside count same c t))
  | inr apart ↦
      let less : h < g = omega (arith, below, apart) in
      subst (λ (u : TenantIs). LosesPages (get_or actions h d).swap_out (get_or ts h t) u) (sym (before_same g ts mid ts' (LosesPages action.swap_out) inside count same c h t less)) (before h t d less)
]

pub cut_short : (g lost : ℕ) (actions : List Action) (ts mid ts' : List TenantIs) (action : Action) → g < length ts → length mid ≡ length ts → ((d : Action) → get_or actions g d ≡ action)
    → lost < action.swap_out → Changes (LosesPages lost) g mid ts' → SameFrom g ts mid → AreFewer actions g ts mid → AreCutShort actions ts ts'
cut_short g lost actions ts mid ts' action inside count is less c same before = record {
  g = g;
  there = inside;
  before = λ h t d below.
      subst (λ (u : TenantIs). LosesPages (get_or actions h d).swap_out (get_or ts h t) u) (sym (before_same g ts mid ts' (LosesPages lost) inside count same c h t below)) (before h t d below);
  lost = lost;
  less = λ d. subst (λ (x : Action). lost < x.swap_out) (sym (is d)) less;
  its = its_how g ts mid ts' (LosesPages lost) inside count same c;
  after = others_same g ts mid ts' (LosesPages lost) inside count same c;
}

pub moves_more : (g : ℕ) (ts mid ts' : List TenantIs) (lost : ℕ) → g < length mid → OnlyPagesMove ts mid → Changes (LosesPages lost) g mid ts' → OnlyPagesMove ts ts'
moves_more g ts mid ts' lost inside before c = pages_then ts mid ts' before (only_pages g mid ts' inside (record { one = c.one; so = λ t. (c.so t).moves }))

-- ---- the plan leaves each guest what it always keeps

one_may : (l : Level) (s : Stat) (target : ℕ) → IsTarget s target → (action_of l s target).swap_out + min s.minimum s.resident ≤ s.resident
one_may level.High s target is = omega (arith, min-le_right s.minimum s.resident)
one_may level.Soft s target is = omega (arith, min-le_right s.minimum s.resident)
one_may level.Hard s target is = omega (arith, is.at_most, is.at_least)
one_may level.Low s target is = omega (arith, is.at_most, is.at_least)

each_may : (l : Level) (ss : List Stat) (targets : List ℕ) → AllZip IsTarget ss targets → (g : ℕ) (s : Stat) (d : Action) → g < length ss
    → (get_or (actions_by l ss targets) g d).swap_out + min (get_or ss g s).minimum (get_or ss g s).resident ≤ (get_or ss g s).resident
each_may l [] targets all g s d inside = absurd (omega (arith, inside))
each_may l (x ∷ ss) [] all g s d inside = absurd all
each_may l (x ∷ ss) (y ∷ ys) all zero s d inside = one_may l x y all.0
each_may l (x ∷ ss) (y ∷ ys) all (suc g) s d inside = each_may l ss ys all.1 g s d (omega (arith, inside))

same_resident : (ps ps' : List Page) → outline ps' ≡ outline ps → resident_pages ps' ≡ resident_pages ps
same_resident ps ps' same =
    omega (
      arith,
      sym (outline_private ps') ∙ ap private_pages same ∙ outline_private ps,
      sym (outline_shared ps') ∙ ap shared_pages same ∙ outline_shared ps,
    )

pub all_may : (l : Level) (tax total : ℕ) (ts mid : List TenantIs) (actions : List Action) (made : List Aim) → actions ≡ actions_of l tax total (map stat_of ts)
    → AllZip IsTarget (map stat_of ts) (targets_of tax total (map stat_of ts)) → AreTurned actions ts made mid
    → (g : ℕ) (t : TenantIs) (d : Action) → g < length mid → MayLose (get_or actions g d).swap_out (get_or mid g t)
all_may l tax total ts mid actions made are all turned g t d inside =
    let there : g < length ts = omega (arith, inside, turned.count) in
    let one = turned.each g t d aim.Kept there in
    let at : get_or (map stat_of ts) g (stat_of t) ≡ stat_of (get_or ts g t) = map_at stat_of ts g t (stat_of t) there in
    let may : (get_or actions g d).swap_out + min (get_or ts g t).minimum (resident_pages (pages_in (get_or ts g t))) ≤ resident_pages (pages_in (get_or ts g t)) =
    subst (λ (s : Stat). (get_or actions g d).swap_out + min s.minimum s.resident ≤ s.resident) at
    (subst (λ (l : List Action). (get_or l g d).swap_out + min (get_or (map stat_of ts) g (stat_of t)).minimum (get_or (map stat_of ts) g (stat_of t)).resident ≤ (get_or (map stat_of ts) g (stat_of t)).resident) (sym are)
    (each_may l (map stat_of ts) (targets_of tax total (map stat_of ts)) all g (stat_of t) d (omega (arith, there, length-map ts stat_of)))) in
    subst (λ (n : ℕ). (get_or actions g d).swap_out + min (get_or mid g t).minimum n ≤ n) (sym (same_resident (pages_in (get_or ts g t)) (pages_in (get_or mid g t)) one.pages))
    (subst (λ (m : ℕ). (get_or actions g d).swap_out + min m (resident_pages (pages_in (get_or ts g t))) ≤ resident_pages (pages_in (get_or ts g t))) (sym one.stays.minimum) may)

-- ---- each guest is left what it always keeps

left_one : (lost count : ℕ) (t t' : TenantIs) → lost ≤ count → MayLose count t → LosesPages lost t t' → min t.minimum (resident_pages (pages_in t)) ≤ resident_pages (pages_in t')
left_one lost count t t' most may loses = omega (arith, most, may, loses.fewer)

left_each : (actions : List Action) (refused : Option EvictError) (mid ts' : List TenantIs) → AreSwappedOut actions refused mid ts'
    → ((g : ℕ) (t : TenantIs) (d : Action) → g < length mid → MayLose (get_or actions g d).swap_out (get_or mid g t))
    → (d : Action) (g : ℕ) (t : TenantIs) → g < length mid → min (get_or mid g t).minimum (resident_pages (pages_in (get_or mid g t))) ≤ resident_pages (pages_in (get_or ts' g t))
left_each actions None mid ts' swapped may d g t inside =
    left_one (get_or actions g d).swap_out (get_or actions g d).swap_out (get_or mid g t) (get_or ts' g t) (omega arith) (may g t d inside) (swapped g t d inside)
left_each actions (Some error) mid ts' cut may d g t inside = elim (cases_lt g cut.g) [
  | inl before ↦ left_one (get_or actions g d).swap_out (get_or actions g d).swap_out (get_or mid g t) (get_or ts' g t) (omega arith) (may g t d inside) (cut.before g t d before)
  | inr from ↦ elim (cases_eq g cut.g) [
    | inl e ↦
        left_one cut.lost (get_or actions g d).swap_out (get_or mid g t) (get_or ts' g t)
        (subst (λ (k : ℕ). cut.lost ≤ (get_or actions k d).swap_out) (sym e) (omega (arith, cut.less d))) (may g t d inside)
        (subst (λ (k : ℕ). LosesPages cut.lost (get_or mid k t) (get_or ts' k t)) (sym e) (cut.its t))
    | inr apart ↦
        let same = cut.after g t (omega (arith, from, apart)) in
        subst (λ (u : TenantIs). min (get_or mid g t).minimum (resident_pages (pages_in (get_or mid g t))) ≤ resident_pages (pages_in u)) (sym same)
        (min-le_right (get_or mid g t).minimum (resident_pages (pages_in (get_or mid g t))))
  ]
]

pub least_left : (actions : List Action) (made : List Aim) (refused : Option EvictError) (ts mid ts' : List TenantIs) → AreTurned actions ts made mid → AreSwappedOut actions refused mid ts'
    → ((g : ℕ) (t : TenantIs) (d : Action) → g < length mid → MayLose (get_or actions g d).swap_out (get_or mid g t))
    → (d : Action) (g : ℕ) (t : TenantIs) → g < length ts → min (get_or ts g t).minimum (resident_pages (pages_in (get_or ts g t))) ≤ resident_pages (pages_in (get_or ts' g t))
least_left actions made refused ts mid ts' turned swapped may d g t inside =
    let one = turned.each g t d aim.Kept inside in
    subst (λ (n : ℕ). min (get_or ts g t).minimum n ≤ resident_pages (pages_in (get_or ts' g t))) (same_resident (pages_in (get_or ts g t)) (pages_in (get_or mid g t)) one.pages)
    (subst (λ (m : ℕ). min m (resident_pages (pages_in (get_or mid g t))) ≤ resident_pages (pages_in (get_or ts' g t))) one.stays.minimum
    (left_each actions refused mid ts' swapped may d g t (omega (arith, inside, turned.count))))

-- ---- the turn

swapped_of : {T : Type 0} (r : Result T EvictError) (actions : List Action) (mid ts' : List TenantIs) → OnOk r (AreFewer actions (length mid) mid ts') → OnErr r (AreCutShort actions mid ts')
    → AreSwappedOut actions (result_err r) mid ts'
swapped_of (Ok x) actions mid ts' all short = all
swapped_of (Err e) actions mid ts' all short = short

why_of : {T : Type 0} (r : Result T EvictError) (P : EvictError → Type 0) → IfErr r P → IfSome (result_err r) P
why_of (Ok x) P why = tt
why_of (Err e) P why = why

pub turn_of : {Store T : Type 0} (tax : ℕ) (failed : Type 0) (w w' : WorldIs Store) (turn : Turn) (mid : List TenantIs) (r : Result T EvictError)
    → turn.level ≡ next_level_of (length w.pool.free) w.frames w.level → w'.level ≡ turn.level → turn.refused ≡ result_err r
    → AllZip IsTarget (map stat_of w.tenants) (targets_of tax w.frames (map stat_of w.tenants)) → AreTurned (actions_in tax w turn) w.tenants turn.aims.items mid → OnlyPagesMove mid w'.tenants
    → OnOk r (AreFewer (actions_in tax w turn) (length mid) mid w'.tenants) → OnErr r (AreCutShort (actions_in tax w turn) mid w'.tenants) → IfErr r (WhyStays w'.slots failed) → IsTurn tax failed w turn w'
turn_of tax failed w w' turn mid r level now told targets turned moves all short why =
    let acts = actions_in tax w turn in
    let swapped : AreSwappedOut acts turn.refused mid w'.tenants = subst (λ (o : Option EvictError). AreSwappedOut acts o mid w'.tenants) (sym told) (swapped_of r acts mid w'.tenants all short) in
    record {
      level = level;
      now = now;
      mid = mid;
      turned = turned;
      moves = moves;
      swapped = swapped;
      why = subst (λ (o : Option EvictError). IfSome o (WhyStays w'.slots failed)) (sym told) (why_of r (WhyStays w'.slots failed) why);
      least = least_left acts turn.aims.items turn.refused w.tenants mid w'.tenants turned swapped (all_may turn.level tax w.frames w.tenants mid acts turn.aims.items refl targets turned)
          (record { balloon = None; swap_out = 0; blocked = false });
    }

-- ---- logs and boots

aimed_items : (wanted : Option ℕ) (t t' : TenantIs) (a : Aim) → IsAimed wanted t a t' → items_of t' ≡ items_of t ++ aim_items a
aimed_items wanted t t' aim.Kept aimed = aimed.1.items ∙ sym (append-nil (items_of t))
aimed_items wanted t t' (aim.Set pages) aimed = aimed.2
aimed_items wanted t t' (aim.LeftOut stop) aimed = aimed.1.items ∙ sym (append-nil (items_of t))

turned_log : (actions : List Action) (made : List Aim) (ts mid : List TenantIs) → Action → AreTurned actions ts made mid → (h : ℕ) → log_at mid h ≡ log_at ts h ++ aim_items (get_or made h aim.Kept)
turned_log actions made ts mid d turned h = elim (cases_lt h (length ts)) [
  | inl inside ↦
      let t = some_tenant ts h inside in
      its_log mid h t (omega (arith, inside, turned.count))
      ∙ aimed_items (get_or actions h d).balloon (get_or ts h t) (get_or mid h t) (get_or made h aim.Kept) (turned.each h t d aim.Kept inside).aimed
      ∙ ap (λ (l : List Item). l ++ aim_items (get_or made h aim.Kept)) (sym (its_log ts h t inside))
  | inr past ↦
      log_past mid h (omega (arith, past, turned.count)) ∙ sym (log_past ts h past) ∙ sym (append-nil (log_at ts h))
      ∙ ap (λ (a : Aim). log_at ts h ++ aim_items a) (sym (get_or_past made h aim.Kept (omega (arith, past, turned.aims))))
]

pub turn_log : (actions : List Action) (made : List Aim) (ts mid ts' : List TenantIs) → Action → AreTurned actions ts made mid → OnlyPagesMove mid ts' → (h : ℕ)
    → log_at ts' h ≡ log_at ts h ++ aim_items (get_or made h aim.Kept)
turn_log actions made ts mid ts' d turned moves h =
    ap (λ (logs : List (List Item)). get_or logs h []) (stays_beside items_of (λ t. refl) mid ts' moves) ∙ turned_log actions made ts mid d turned h

pub turn_boots : (actions : List Action) (made : List Aim) (ts mid ts' : List TenantIs) → Action → AreTurned actions ts made mid → OnlyPagesMove mid ts' → map boot_of ts' ≡ map boot_of ts
turn_boots actions made ts mid ts' d turned moves =
    stays_beside boot_of (λ t. refl) mid ts' moves ∙ same_map boot_of ts mid turned.count (λ g t inside. (turned.each g t d aim.Kept inside).stays.boot)

pub done_logs : {Store E : Type 0} (tax : ℕ) (failed : Type 0) (w w' : WorldIs Store) (r : Result Turn E) → IfOk r (λ turn. IsTurn tax failed w turn w') → OnErr r (w' ≡ w)
    → (h : ℕ) → log_at w'.tenants h ≡ log_at w.tenants h ++ turn_items h r
done_logs tax failed w w' (Ok turn) made unchanged h =
    turn_log (actions_in tax w turn) turn.aims.items w.tenants made.mid w'.tenants (record { balloon = None; swap_out = 0; blocked = false }) made.turned made.moves h
done_logs tax failed w w' (Err error) made unchanged h = ap (λ (x : WorldIs _). log_at x.tenants h) unchanged ∙ sym (append-nil (log_at w.tenants h))

pub done_boots : {Store E : Type 0} (tax : ℕ) (failed : Type 0) (w w' : WorldIs Store) (r : Result Turn E) → IfOk r (λ turn. IsTurn tax failed w turn w') → OnErr r (w' ≡ w)
    → map boot_of w'.tenants ≡ map boot_of w.tenants
done_boots tax failed w w' (Ok turn) made unchanged =
    turn_boots (actions_in tax w turn) turn.aims.items w.tenants made.mid w'.tenants (record { balloon = None; swap_out = 0; blocked = false }) made.turned made.moves
done_boots tax failed w w' (Err error) made unchanged = ap (λ (x : WorldIs _). map boot_of x.tenants) unchanged
