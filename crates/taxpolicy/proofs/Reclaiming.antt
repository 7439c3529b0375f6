-- One page after the other is taken from victims.
use Rattle.std.proofs.Common.{◌≡◌, ℕ, ◌+◌, ◌-◌, ◌<◌, ◌≤◌, zero, suc, List, [], ◌∷◌, Some, None, set, get_or, slice_get, sum, sym, ap, refl, inl, inr, nat_le, arith}
use Rattle.std.proofs.Math.Bridge.{le_prop}
use Rattle.std.proofs.lemmas.Bool.{le-leb, lt-leb, cases_Bool}
use Rattle.std.proofs.lemmas.List.Sums.{sum_by-cons}
use Rattle.std.proofs.lemmas.Option.{none-some, same_Some}
use Rattle.taxpolicy.specs.Targets.{residents, without_page, reclaimed}
use Rattle.taxpolicy.specs.Victim.{victim_of}
use Rattle.taxpolicy.specs.declared.stat.Stat.{Stat}

-- guests with the same numbers are the same
same_stat : (s : Stat) (some : 0 < s.sample) (within : s.active ≤ s.sample) → s ≡ record s { sampled = some; touched = within }
same_stat s some within = λ i. record s { sampled = le_prop s.sampled some i; touched = le_prop s.touched within i }

-- the page is taken by a write to the guest
pub without_page_set : (ss : List Stat) (g : ℕ) (d : Stat) (some : 0 < (get_or ss g d).sample) (within : (get_or ss g d).active ≤ (get_or ss g d).sample) → set ss g (record (get_or ss g d) { resident = (get_or ss g d).resident - 1; sampled = some; touched = within }) ≡ without_page g ss
without_page_set [] g d some within = refl
without_page_set (s ∷ ss) zero d some within = ap (λ (t : Stat). t ∷ ss) (sym (same_stat (record s { resident = s.resident - 1 }) some within))
without_page_set (s ∷ ss) (suc g) d some within = ap (λ (ts : List Stat). s ∷ ts) (without_page_set ss g d some within)

pub sum_cons : (n : ℕ) (ns : List ℕ) → sum (n ∷ ns) ≡ n + sum ns
sum_cons n ns = sum_by-cons (λ x. x) n ns

-- the guests have one page less together
pub without_page_less : (ss : List Stat) (g : ℕ) (s : Stat) → slice_get ss g ≡ Some s → 0 < s.resident → sum (residents (without_page g ss)) + 1 ≡ sum (residents ss)
without_page_less [] g s at some = absurd (none-some s at)
without_page_less (t ∷ ts) zero s at some =
    let same : t.resident ≡ s.resident = ap (λ (x : Stat). x.resident) (same_Some t s at) in
    omega (arith, sum_cons (t.resident - 1) (residents ts), sum_cons t.resident (residents ts))
without_page_less (t ∷ ts) (suc g) s at some =
    omega (arith, sum_cons t.resident (residents (without_page g ts)), sum_cons t.resident (residents ts), without_page_less ts g s at some)

-- nothing more is taken where the limit is kept
pub reclaimed_within : (tax limit pages : ℕ) (ss : List Stat) → sum (residents ss) ≤ limit → reclaimed tax limit pages ss ≡ ss
unfolding reclaimed
reclaimed_within tax limit zero ss within = refl
reclaimed_within tax limit (suc pages) ss within = rw (le-leb (sum (residents ss)) limit within) refl

-- or where nobody is eligible
pub reclaimed_nobody : (tax limit pages : ℕ) (ss : List Stat) → victim_of tax ss ≡ None → reclaimed tax limit pages ss ≡ ss
unfolding reclaimed
reclaimed_nobody tax limit zero ss none = refl
reclaimed_nobody tax limit (suc pages) ss none = elim (cases_Bool (nat_le (sum (residents ss)) limit)) [
  | inl within ↦ rw within refl
  | inr above ↦ rw (above, none) refl
]

-- where there are too many pages, the victim loses one
pub reclaimed_more : (tax limit pages : ℕ) (ss : List Stat) (g : ℕ) → limit < sum (residents ss) → victim_of tax ss ≡ Some g → reclaimed tax limit (suc pages) ss ≡ reclaimed tax limit pages (without_page g ss)
unfolding reclaimed
reclaimed_more tax limit pages ss g above some = rw (lt-leb (sum (residents ss)) limit above, some) refl
