-- The guest of the least ratio, among some guests and one more.
use Rattle.std.proofs.Common.{◌≡◌, ℕ, ◌<◌, ◌⊎◌, inl, inr, zero, suc, List, [], ◌∷◌, ◌++◌, length, Some, None, ◌+◌, Option, MatchOption, slice_get, take, get_or, sym, ap, refl, subst, ◌∙◌, arith, length-take}
use Rattle.std.proofs.lemmas.List.{take_more, get_or-take}
use Rattle.std.proofs.lemmas.Option.{none-some, same_Some, slice_get_within, get_or_from_slice_get}
use Rattle.taxpolicy.specs.Ratio.{ratio, RatioLess}
use Rattle.taxpolicy.specs.Victim.{IsEligible, IsLeast}
use Rattle.taxpolicy.specs.declared.stat.Stat.{Stat}
use Rattle.taxpolicy.proofs.Fractions.{less_less, same_less}
use Rattle.taxpolicy.proofs.Positive.{denominator_pos}

-- nobody of these is eligible
abbrev pub NoneEligible : List Stat → Type 0
NoneEligible ss = (k : ℕ) (s : Stat) → slice_get ss k ≡ Some s → ¬ IsEligible s

last_there : (ss : List Stat) (x : Stat) → slice_get (ss ++ x ∷ []) (length ss) ≡ Some x
last_there [] x = refl
last_there (s ∷ ss) x = last_there ss x

still_there : (ss : List Stat) (x s : Stat) (k : ℕ) → slice_get ss k ≡ Some s → slice_get (ss ++ x ∷ []) k ≡ Some s
still_there [] x s k at = absurd (none-some s at)
still_there (t ∷ ss) x s zero at = at
still_there (t ∷ ss) x s (suc k) at = still_there ss x s k at

-- a guest of the longer list is one of the shorter, or the last
there_or_last : (ss : List Stat) (x s : Stat) (k : ℕ) → slice_get (ss ++ x ∷ []) k ≡ Some s → (slice_get ss k ≡ Some s) ⊎ ((k ≡ length ss) × (x ≡ s))
there_or_last [] x s zero at = inr (refl, same_Some x s at)
there_or_last [] x s (suc k) at = absurd (none-some s at)
there_or_last (t ∷ ss) x s zero at = inl at
there_or_last (t ∷ ss) x s (suc k) at =
    elim (there_or_last ss x s k at) [ inl before ↦ inl before | inr last ↦ inr (omega (arith, last.0), last.1) ]

none_more : (ss : List Stat) (x : Stat) → NoneEligible ss → ¬ IsEligible x → NoneEligible (ss ++ x ∷ [])
none_more ss x none not_x k s at eligible =
    elim (there_or_last ss x s k at) [ inl before ↦ none k s before eligible | inr last ↦ not_x (subst IsEligible (sym last.1) eligible) ]

-- the first that is eligible is the least
first_least : (tax : ℕ) (ss : List Stat) (x : Stat) → NoneEligible ss → IsEligible x → IsLeast tax (ss ++ x ∷ []) (length ss)
first_least tax ss x none eligible = record {
  guest = x;
  there = last_there ss x;
  eligible = eligible;
  least = λ k s at able less. elim (there_or_last ss x s k at) [
    | inl before ↦ none k s before able
    | inr last ↦ let same : RatioLess (ratio tax x) (ratio tax x) = subst (λ (t : Stat). RatioLess (ratio tax t) (ratio tax x)) (sym last.1) less in omega (arith, same)
  ];
  first = λ k s at able same. elim (there_or_last ss x s k at) [ inl before ↦ absurd (none k s before able) | inr last ↦ omega (arith, last.0) ];
}

-- one that has no smaller ratio leaves the least as it was
least_kept : (tax : ℕ) (ss : List Stat) (x : Stat) (g : ℕ) (h : IsLeast tax ss g) → (IsEligible x → ¬ RatioLess (ratio tax x) (ratio tax h.guest)) → IsLeast tax (ss ++ x ∷ []) g
least_kept tax ss x g h not_less = record {
  guest = h.guest;
  there = still_there ss x h.guest g h.there;
  eligible = h.eligible;
  least = λ k s at able less. elim (there_or_last ss x s k at) [
    | inl before ↦ h.least k s before able less
    | inr last ↦ not_less (subst IsEligible (sym last.1) able) (subst (λ (t : Stat). RatioLess (ratio tax t) (ratio tax h.guest)) (sym last.1) less)
  ];
  first = λ k s at able same. elim (there_or_last ss x s k at) [
    | inl before ↦ h.first k s before able same
    | inr last ↦ let within = slice_get_within ss g h.guest h.there in omega (arith, last.0)
  ];
}

-- one that has a smaller ratio takes the place of the least
least_taken : (tax : ℕ) (ss : List Stat) (x : Stat) (g : ℕ) → tax < 100 → (h : IsLeast tax ss g) → IsEligible x → RatioLess (ratio tax x) (ratio tax h.guest) → IsLeast tax (ss ++ x ∷ []) (length ss)
least_taken tax ss x g below h eligible x_less = record {
  guest = x;
  there = last_there ss x;
  eligible = eligible;
  least = λ k s at able less. elim (there_or_last ss x s k at) [
    | inl before ↦ h.least k s before able (less_less (ratio tax s) (ratio tax x) (ratio tax h.guest) less x_less)
    | inr last ↦ let same : RatioLess (ratio tax x) (ratio tax x) = subst (λ (t : Stat). RatioLess (ratio tax t) (ratio tax x)) (sym last.1) less in omega (arith, same)
  ];
  first = λ k s at able same. elim (there_or_last ss x s k at) [
    | inl before ↦ absurd (h.least k s before able (same_less (ratio tax s) (ratio tax x) (ratio tax h.guest) (denominator_pos tax s below able) same x_less))
    | inr last ↦ omega (arith, last.0)
  ];
}

-- the least of some guests, or none where nobody is eligible
abbrev pub IsVictim : ℕ → List Stat → Option ℕ → Type 0
IsVictim tax ss o = MatchOption o (NoneEligible ss) (λ g. IsLeast tax ss g)

taken_more : (ss : List Stat) (i : ℕ) (x : Stat) → i < length ss → x ≡ get_or ss i x → take (i + 1) ss ≡ take i ss ++ x ∷ []
taken_more ss i x within read = take_more ss i x within ∙ ap (λ (s : Stat). take i ss ++ s ∷ []) (sym read)

-- a guest among the first stands at the same place among all
pub first_read : (ss : List Stat) (i g : ℕ) (s d : Stat) → slice_get (take i ss) g ≡ Some s → s ≡ get_or ss g d
first_read ss i g s d at =
    let within = slice_get_within (take i ss) g s at in
    let below : g < i = omega (arith, length-take i ss) in
    sym (get_or_from_slice_get (take i ss) g s d at) ∙ get_or-take i ss g d below

read_first : (ss : List Stat) (i g : ℕ) (s y : Stat) → slice_get (take i ss) g ≡ Some s → y ≡ get_or ss g y → s ≡ y
read_first ss i g s y at read = first_read ss i g s y at ∙ sym read

-- the guest at i takes the place of the least before it
pub victim_taken : (tax : ℕ) (ss : List Stat) (i : ℕ) (x : Stat) (o : Option ℕ) → tax < 100 → i < length ss → x ≡ get_or ss i x → IsVictim tax (take i ss) o → IsEligible x → ((g : ℕ) → o ≡ Some g → (y : Stat) × (y ≡ get_or ss g y) × RatioLess (ratio tax x) (ratio tax y)) → IsLeast tax (take (i + 1) ss) i
victim_taken tax ss i x None below within read none able less =
    rw (taken_more ss i x within read) (subst (λ n. IsLeast tax (take i ss ++ x ∷ []) n) (omega (arith, length-take i ss)) (first_least tax (take i ss) x none able))
victim_taken tax ss i x (Some g) below within read h able less =
    let lower = less g refl in
    let same : h.guest ≡ lower.0 = read_first ss i g h.guest lower.0 h.there lower.1 in
    let x_less : RatioLess (ratio tax x) (ratio tax h.guest) = subst (λ (t : Stat). RatioLess (ratio tax x) (ratio tax t)) (sym same) lower.2 in
    rw (taken_more ss i x within read) (subst (λ n. IsLeast tax (take i ss ++ x ∷ []) n) (omega (arith, length-take i ss)) (least_taken tax (take i ss) x g below h able x_less))

-- the guest at i leaves the least before it
pub victim_kept : (tax : ℕ) (ss : List Stat) (i : ℕ) (x : Stat) (o : Option ℕ) → i < length ss → x ≡ get_or ss i x → IsVictim tax (take i ss) o → (IsEligible x → (g : ℕ) × (y : Stat) × (o ≡ Some g) × (y ≡ get_or ss g y) × (¬ RatioLess (ratio tax x) (ratio tax y))) → IsVictim tax (take (i + 1) ss) o
victim_kept tax ss i x None within read none not_less =
    rw (taken_more ss i x within read) (none_more (take i ss) x none (λ able. none-some (not_less able).0 (not_less able).2))
victim_kept tax ss i x (Some g) within read h not_less =
    rw (taken_more ss i x within read) (least_kept tax (take i ss) x g h (λ able less.
    let found = not_less able in
    let same : g ≡ found.0 = same_Some g found.0 found.2 in
    let at : found.1 ≡ get_or ss g found.1 = found.3 ∙ ap (λ n. get_or ss n found.1) (sym same) in
    found.4 (subst (λ (t : Stat). RatioLess (ratio tax x) (ratio tax t)) (read_first ss i g h.guest found.1 h.there at) less)))
