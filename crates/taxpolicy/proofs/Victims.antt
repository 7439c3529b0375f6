-- The victim is the guest of the least ratio.
use Rattle.std.proofs.Common.{◌≡◌, ℕ, ◌*◌, ◌<◌, ◌≤◌, ◌↔◌, inl, inr, Bool, true, false, not, ◌&&◌, List, length, Option, Some, None, IfSome, IsNone, All, slice_get, get_or, sym, ap, refl, subst, arith}
use Rattle.std.specs.List.{list_any}
use Rattle.std.proofs.lemmas.Bool.{lt-ltb, le-ltb, cases_lt, cases_order, and_from, and_left, and_right}
use Rattle.std.proofs.lemmas.Option.{none-some, same_Some, slice_get_within, slice_get-get_or, get_or_from_slice_get}
use Rattle.taxpolicy.specs.Ratio.{ratio, RatioLess, is_ratio_less}
use Rattle.taxpolicy.specs.Victim.{IsEligible, is_eligible, IsLeast, is_least, victim_of}
use Rattle.taxpolicy.specs.declared.stat.Stat.{Stat}
use Rattle.taxpolicy.proofs.Firsts.{any_none, any_at, position_first, position_none}
use Rattle.taxpolicy.proofs.Leasts.{NoneEligible, IsVictim}

-- no two guests are the least
pub least_unique : (tax : ℕ) (ss : List Stat) (g h : ℕ) → IsLeast tax ss g → IsLeast tax ss h → g ≡ h
least_unique tax ss g h p q =
    let not_less = p.least h q.guest q.there q.eligible in
    let not_more = q.least g p.guest p.there p.eligible in
    let a = ratio tax p.guest in
    let b = ratio tax q.guest in
    elim (cases_order (a.numerator * b.denominator) (b.numerator * a.denominator)) [
      | inl same ↦
          let one = q.first g p.guest p.there p.eligible same in
          let two = p.first h q.guest q.there q.eligible (sym same) in
          omega arith
      | inr apart ↦ elim apart [ inl less ↦ absurd (not_more less) | inr more ↦ absurd (not_less more) ]
    ]

-- the test of another guest that is eligible and has a smaller ratio
abbrev is_better : ℕ → Stat → Stat → Bool
is_better tax s other = is_eligible other && is_ratio_less (ratio tax other) (ratio tax s)

eligible_true : (s : Stat) → IsEligible s → is_eligible s ≡ true
eligible_true s h = lt-ltb s.minimum s.resident h

not_better : (tax : ℕ) (s other : Stat) → (IsEligible other → ¬ RatioLess (ratio tax other) (ratio tax s)) → is_better tax s other ≡ false
not_better tax s other none =
    elim (cases_lt other.minimum other.resident) [
      | inl able ↦
          let a = ratio tax other in
          let b = ratio tax s in
          elim (cases_lt (a.numerator * b.denominator) (b.numerator * a.denominator)) [
            | inl less ↦ absurd (none able less)
            | inr not_less ↦ and_right (is_eligible other) (is_ratio_less a b) (le-ltb _ _ not_less)
          ]
      | inr unable ↦ and_left (is_eligible other) (is_ratio_less (ratio tax other) (ratio tax s)) (le-ltb _ _ unable)
    ]

-- a guest before the least isn't eligible, or the least is better
before_least : (tax : ℕ) (ss : List Stat) (g : ℕ) → IsLeast tax ss g → (k : ℕ) (s : Stat) → k < g → slice_get ss k ≡ Some s → is_least tax ss s ≡ false
before_least tax ss g h k s before at =
    let better = list_any (is_better tax s) ss in
    elim (cases_lt s.minimum s.resident) [
      | inl able ↦
          let a = ratio tax h.guest in
          let b = ratio tax s in
          elim (cases_order (a.numerator * b.denominator) (b.numerator * a.denominator)) [
            | inl same ↦ absurd (let later = h.first k s at able (sym same) in omega arith)
            | inr apart ↦ elim apart [
              | inl less ↦
                  let beaten : is_better tax s h.guest ≡ true = and_from _ _ (eligible_true h.guest h.eligible) (lt-ltb _ _ less) in
                  and_right (is_eligible s) (not better) (ap not (any_at (is_better tax s) ss g h.guest h.there beaten))
              | inr more ↦ absurd (h.least k s at able more)
            ]
          ]
      | inr unable ↦ and_left (is_eligible s) (not better) (le-ltb _ _ unable)
    ]

not_above : (a b : ℕ) → ¬ (a < b) → b ≤ a
not_above a b h = elim (cases_lt a b) [ inl less ↦ absurd (h less) | inr more ↦ more ]

pub victim_least : (tax : ℕ) (ss : List Stat) (g : ℕ) → IsLeast tax ss g → victim_of tax ss ≡ Some g
unfolding victim_of
victim_least tax ss g h =
    let alone = any_none (is_better tax h.guest) ss (λ k s at. not_better tax h.guest s (h.least k s at)) in
    let passes : is_least tax ss h.guest ≡ true = and_from _ _ (eligible_true h.guest h.eligible) (ap not alone) in
    position_first (is_least tax ss) ss g h.guest h.there passes (before_least tax ss g h)

pub victim_none : (tax : ℕ) (ss : List Stat) → NoneEligible ss → victim_of tax ss ≡ None
unfolding victim_of
victim_none tax ss none =
    position_none (is_least tax ss) ss (λ k s at. and_left (is_eligible s) (not (list_any (is_better tax s) ss)) (le-ltb _ _ (not_above s.minimum s.resident (none k s at))))

pub victim_value : (tax : ℕ) (ss : List Stat) (o : Option ℕ) → IsVictim tax ss o → o ≡ victim_of tax ss
victim_value tax ss None h = sym (victim_none tax ss h)
victim_value tax ss (Some g) h = sym (victim_least tax ss g h)

pub victim_exact : (tax : ℕ) (ss : List Stat) (o : Option ℕ) → IsVictim tax ss o → (g : ℕ) → (o ≡ Some g) ↔ IsLeast tax ss g
victim_exact tax ss None h g = (λ e. absurd (none-some g e), λ l. absurd (h g l.guest l.there l.eligible))
victim_exact tax ss (Some f) h g = (λ e. subst (λ n. IsLeast tax ss n) (same_Some f g e) h, λ l. ap (λ n. Some n) (least_unique tax ss f g h l))

pub all_from_none : (ss : List Stat) → NoneEligible ss → All (λ s. ¬ IsEligible s) ss
all_from_none ss none k d within eligible = none k (get_or ss k d) (slice_get-get_or ss k d within) eligible

pub none_from_all : (ss : List Stat) → All (λ s. ¬ IsEligible s) ss → NoneEligible ss
none_from_all ss all k s at eligible = all k s (slice_get_within ss k s at) (subst IsEligible (sym (get_or_from_slice_get ss k s s at)) eligible)

pub victim_nobody : (tax : ℕ) (ss : List Stat) (o : Option ℕ) → IsVictim tax ss o → IsNone o ↔ All (λ s. ¬ IsEligible s) ss
victim_nobody tax ss None h = (λ _. all_from_none ss h, λ _. refl)
victim_nobody tax ss (Some g) h = (λ e. cc, λ all. absurd (none_from_all ss all g h.guest h.there h.eligible))

pub victim_within : (tax : ℕ) (ss : List Stat) (o : Option ℕ) → IsVictim tax ss o → IfSome o (λ g. g < length ss)
victim_within tax ss None h = tt
victim_within tax ss (Some g) h = slice_get_within ss g h.guest h.there
