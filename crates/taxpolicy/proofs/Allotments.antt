-- What guests keep when pages are reclaimed.
use Rattle.std.proofs.Common.{◌≡◌, ℕ, ◌<◌, ◌≤◌, ◌⊎◌, inl, inr, min, zero, suc, List, [], ◌∷◌, Option, Some, None, length, slice_get, sum, sym, ap, refl, subst, ◌∙◌, arith}
use Rattle.std.specs.List.{AllZip}
use Rattle.std.proofs.lemmas.Bool.{cases_lt}
use Rattle.std.proofs.lemmas.Option.{same_Some}
use Rattle.taxpolicy.specs.Targets.{frames_to_fill, residents, without_page, reclaimed, targets_of, IsTarget, AtMinimum}
use Rattle.taxpolicy.specs.Victim.{IsEligible, IsLeast, victim_of}
use Rattle.taxpolicy.specs.declared.stat.Stat.{Stat}
use Rattle.taxpolicy.proofs.Existence.{victim_is}
use Rattle.taxpolicy.proofs.Leasts.{NoneEligible, IsVictim}
use Rattle.taxpolicy.proofs.Reclaiming.{without_page_less, reclaimed_within, reclaimed_nobody, reclaimed_more}

-- a guest keeps its minimum, loses pages at most, and no page below that
record Keeps (s r : Stat) : Type 0 where
  minimum : r.minimum ≡ s.minimum
  at_most : r.resident ≤ s.resident
  at_least : min s.minimum s.resident ≤ r.resident

keeps_itself : (ss : List Stat) → AllZip Keeps ss ss
keeps_itself [] = tt
keeps_itself (s ∷ ss) = (record { minimum = refl; at_most = omega arith; at_least = omega arith }, keeps_itself ss)

keeps_both : (ss ts us : List Stat) → AllZip Keeps ss ts → AllZip Keeps ts us → AllZip Keeps ss us
keeps_both [] [] [] p q = tt
keeps_both [] [] (u ∷ us) p q = absurd q
keeps_both [] (t ∷ ts) us p q = absurd p
keeps_both (s ∷ ss) [] us p q = absurd p
keeps_both (s ∷ ss) (t ∷ ts) [] p q = absurd q
keeps_both (s ∷ ss) (t ∷ ts) (u ∷ us) p q =
    let one = p.0 in
    let two = q.0 in
    (record { minimum = two.minimum ∙ one.minimum; at_most = omega arith; at_least = omega arith }, keeps_both ss ts us p.1 q.1)

without_page_keeps : (ss : List Stat) (g : ℕ) (s : Stat) → slice_get ss g ≡ Some s → IsEligible s → AllZip Keeps ss (without_page g ss)
without_page_keeps [] g s at able = tt
without_page_keeps (t ∷ ts) zero s at able =
    let able_here : IsEligible t = subst IsEligible (sym (same_Some t s at)) able in
    (record { minimum = refl; at_most = omega arith; at_least = omega (arith, able_here) }, keeps_itself ts)
without_page_keeps (t ∷ ts) (suc g) s at able =
    (record { minimum = refl; at_most = omega arith; at_least = omega arith }, without_page_keeps ts g s at able)

-- the cases of a step
record Ends (tax limit pages : ℕ) (ss : List Stat) : Type 0 where
  same : reclaimed tax limit pages ss ≡ ss
  ended : (sum (residents ss) ≤ limit) ⊎ NoneEligible ss

record Goes (tax limit pages : ℕ) (ss : List Stat) : Type 0 where
  g : ℕ
  least : IsLeast tax ss g
  above : limit < sum (residents ss)
  step : reclaimed tax limit (suc pages) ss ≡ reclaimed tax limit pages (without_page g ss)

victim_steps : (tax limit pages : ℕ) (ss : List Stat) (o : Option ℕ) → victim_of tax ss ≡ o → IsVictim tax ss o → limit < sum (residents ss) → Ends tax limit (suc pages) ss ⊎ Goes tax limit pages ss
victim_steps tax limit pages ss None is none above = inl (record { same = reclaimed_nobody tax limit (suc pages) ss is; ended = inr none })
victim_steps tax limit pages ss (Some g) is least above = inr (record { g = g; least = least; above = above; step = reclaimed_more tax limit pages ss g above is })

steps : (tax limit pages : ℕ) (ss : List Stat) → tax < 100 → Ends tax limit (suc pages) ss ⊎ Goes tax limit pages ss
steps tax limit pages ss below =
    elim (cases_lt limit (sum (residents ss))) [
      | inl above ↦ victim_steps tax limit pages ss (victim_of tax ss) refl (victim_is tax ss below) above
      | inr within ↦ inl (record { same = reclaimed_within tax limit (suc pages) ss within; ended = inl within })
    ]

reclaimed_keeps : (tax limit pages : ℕ) (ss : List Stat) → tax < 100 → AllZip Keeps ss (reclaimed tax limit pages ss)
unfolding reclaimed
reclaimed_keeps tax limit zero ss below = keeps_itself ss
reclaimed_keeps tax limit (suc pages) ss below =
    elim (steps tax limit pages ss below) [
      | inl e ↦ subst (AllZip Keeps ss) (sym e.same) (keeps_itself ss)
      | inr m ↦
          let next = without_page m.g ss in
          let one = without_page_keeps ss m.g m.least.guest m.least.there m.least.eligible in
          subst (AllZip Keeps ss) (sym m.step) (keeps_both ss next (reclaimed tax limit pages next) one (reclaimed_keeps tax limit pages next below))
    ]

-- in the end the limit is kept, or nobody is eligible
reclaimed_ends : (tax limit pages : ℕ) (ss : List Stat) → tax < 100 → sum (residents ss) ≤ pages → (sum (residents (reclaimed tax limit pages ss)) ≤ limit) ⊎ NoneEligible (reclaimed tax limit pages ss)
unfolding reclaimed
reclaimed_ends tax limit zero ss below few = inl (omega arith)
reclaimed_ends tax limit (suc pages) ss below few =
    let P : List Stat → Type 0 = λ ts. (sum (residents ts) ≤ limit) ⊎ NoneEligible ts in
    elim (steps tax limit pages ss below) [
      | inl e ↦ subst P (sym e.same) e.ended
      | inr m ↦
          let less = without_page_less ss m.g m.least.guest m.least.there (omega (arith, m.least.eligible)) in
          subst P (sym m.step) (reclaimed_ends tax limit pages (without_page m.g ss) below (omega (arith, less)))
    ]

-- no page is taken where the limit is kept
reclaimed_spares : (tax limit pages : ℕ) (ss : List Stat) → tax < 100 → min limit (sum (residents ss)) ≤ sum (residents (reclaimed tax limit pages ss))
unfolding reclaimed
reclaimed_spares tax limit zero ss below = omega arith
reclaimed_spares tax limit (suc pages) ss below =
    let P : List Stat → Type 0 = λ ts. min limit (sum (residents ss)) ≤ sum (residents ts) in
    elim (steps tax limit pages ss below) [
      | inl e ↦ subst P (sym e.same) (omega arith)
      | inr m ↦
          let less = without_page_less ss m.g m.least.guest m.least.there (omega (arith, m.least.eligible)) in
          subst P (sym m.step) (omega (arith, less, m.above, reclaimed_spares tax limit pages (without_page m.g ss) below))
    ]

keep_targets : (ss rs : List Stat) → AllZip Keeps ss rs → AllZip IsTarget ss (residents rs)
keep_targets [] [] h = tt
keep_targets [] (r ∷ rs) h = absurd h
keep_targets (s ∷ ss) [] h = absurd h
keep_targets (s ∷ ss) (r ∷ rs) h = (record { at_most = h.0.at_most; at_least = h.0.at_least }, keep_targets ss rs h.1)

minimum_targets : (ss rs : List Stat) → AllZip Keeps ss rs → NoneEligible rs → AllZip AtMinimum ss (residents rs)
minimum_targets [] [] h none = tt
minimum_targets [] (r ∷ rs) h none = absurd h
minimum_targets (s ∷ ss) [] h none = absurd h
minimum_targets (s ∷ ss) (r ∷ rs) h none =
    let own : r.resident ≤ r.minimum = elim (cases_lt r.minimum r.resident) [ inl able ↦ absurd (none 0 r refl able) | inr unable ↦ unable ] in
    (omega (arith, own, h.0.minimum), minimum_targets ss rs h.1 (λ k t at. none (suc k) t at))

pub each_target : (tax total : ℕ) (ss : List Stat) → tax < 100 → AllZip IsTarget ss (targets_of tax total ss)
unfolding targets_of
each_target tax total ss below =
    let pages = sum (residents ss) in
    keep_targets ss (reclaimed tax (frames_to_fill total) pages ss) (reclaimed_keeps tax (frames_to_fill total) pages ss below)

pub targets_end : (tax total : ℕ) (ss : List Stat) → tax < 100 → (sum (targets_of tax total ss) ≤ frames_to_fill total) ⊎ AllZip AtMinimum ss (targets_of tax total ss)
unfolding targets_of
targets_end tax total ss below =
    let limit = frames_to_fill total in
    let pages = sum (residents ss) in
    elim (reclaimed_ends tax limit pages ss below (omega arith)) [
      | inl within ↦ inl within
      | inr none ↦ inr (minimum_targets ss (reclaimed tax limit pages ss) (reclaimed_keeps tax limit pages ss below) none)
    ]

pub targets_spare : (tax total : ℕ) (ss : List Stat) → tax < 100 → min (frames_to_fill total) (sum (residents ss)) ≤ sum (targets_of tax total ss)
unfolding targets_of
targets_spare tax total ss below = reclaimed_spares tax (frames_to_fill total) (sum (residents ss)) ss below

same_count : (ss : List Stat) (targets : List ℕ) → AllZip IsTarget ss targets → length targets ≡ length ss
same_count [] [] h = refl
same_count [] (t ∷ ts) h = absurd h
same_count (s ∷ ss) [] h = absurd h
same_count (s ∷ ss) (t ∷ ts) h = ap (λ n. suc n) (same_count ss ts h.1)

pub targets_count : (tax total : ℕ) (ss : List Stat) → tax < 100 → length (targets_of tax total ss) ≡ length ss
targets_count tax total ss below = same_count ss (targets_of tax total ss) (each_target tax total ss below)
