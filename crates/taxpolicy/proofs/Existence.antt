-- Among any guests there is a victim, or nobody is eligible.
use Rattle.std.proofs.Common.{◌≡◌, ℕ, ◌*◌, ◌+◌, ◌<◌, ◌≤◌, ◌↔◌, inl, inr, zero, suc, List, length, Option, Some, None, All, take, get_or, sym, ap, subst, refl, ◌∙◌, arith}
use Rattle.std.proofs.lemmas.Bool.{cases_lt}
use Rattle.std.proofs.lemmas.List.{take_all}
use Rattle.std.proofs.lemmas.Option.{none-some, same_Some, slice_get_cases}
use Rattle.taxpolicy.specs.Ratio.{ratio}
use Rattle.taxpolicy.specs.Victim.{IsEligible, IsLeast, victim_of}
use Rattle.taxpolicy.specs.declared.stat.Stat.{Stat}
use Rattle.taxpolicy.proofs.Leasts.{IsVictim, first_read, victim_taken, victim_kept}
use Rattle.taxpolicy.proofs.Victims.{victim_value, victim_exact, all_from_none, none_from_all, victim_none}

-- the victim of one guest more
one_more : (tax : ℕ) (ss : List Stat) (i : ℕ) (x : Stat) (o : Option ℕ) → tax < 100 → i < length ss → x ≡ get_or ss i x → IsVictim tax (take i ss) o → (p : Option ℕ) × IsVictim tax (take (i + 1) ss) p
one_more tax ss i x None below within read none =
    elim (cases_lt x.minimum x.resident) [
      | inl able ↦ (Some i, victim_taken tax ss i x None below within read none able (λ g is. absurd (none-some g is)))
      | inr unable ↦ (None, victim_kept tax ss i x None within read none (λ able. absurd (omega (arith, able))))
    ]
one_more tax ss i x (Some g) below within read h =
    let a = ratio tax x in
    let b = ratio tax h.guest in
    elim (cases_lt x.minimum x.resident) [
      | inl able ↦ elim (cases_lt (a.numerator * b.denominator) (b.numerator * a.denominator)) [
        | inl less ↦ (
          Some i,
          victim_taken tax ss i x (Some g) below within read h able (λ f is.
              let same : g ≡ f = same_Some g f is in
              (h.guest, first_read ss i g h.guest h.guest h.there ∙ ap (λ n. get_or ss n h.guest) same, less)),
        )
        | inr not_less ↦
            (Some g, victim_kept tax ss i x (Some g) within read h (λ _. (g, h.guest, refl, first_read ss i g h.guest h.guest h.there, λ less. omega (arith, less, not_less))))
      ]
      | inr unable ↦ (Some g, victim_kept tax ss i x (Some g) within read h (λ able. absurd (omega (arith, able))))
    ]

among : (tax : ℕ) (ss : List Stat) (n : ℕ) → tax < 100 → n ≤ length ss → (o : Option ℕ) × IsVictim tax (take n ss) o
among tax ss zero below within = (None, λ k s at. absurd (none-some s at))
among tax ss (suc n) below within =
    let before = among tax ss n below (omega arith) in
    elim (slice_get_cases ss n).1 [
      | inl there ↦
          let more = one_more tax ss n there.0 before.0 below (omega arith) (sym there.3) before.1 in
          (more.0, subst (λ k. IsVictim tax (take k ss) more.0) (let next : n + 1 ≡ suc n = omega arith in next) more.1)
      | inr past ↦ absurd (omega (arith, past.0))
    ]

pub victim_is : (tax : ℕ) (ss : List Stat) → tax < 100 → IsVictim tax ss (victim_of tax ss)
victim_is tax ss below =
    let found = among tax ss (length ss) below (omega arith) in
    let whole : IsVictim tax ss found.0 = subst (λ (ts : List Stat). IsVictim tax ts found.0) (take_all (length ss) ss (omega arith)) found.1 in
    subst (IsVictim tax ss) (victim_value tax ss found.0 whole) whole

pub victim_of_least : (tax : ℕ) (ss : List Stat) (g : ℕ) → tax < 100 → (victim_of tax ss ≡ Some g) ↔ IsLeast tax ss g
victim_of_least tax ss g below = victim_exact tax ss (victim_of tax ss) (victim_is tax ss below) g

pub victim_of_nobody : (tax : ℕ) (ss : List Stat) → tax < 100 → (victim_of tax ss ≡ None) ↔ All (λ s. ¬ IsEligible s) ss
victim_of_nobody tax ss below =
    (λ none. all_from_none ss (subst (IsVictim tax ss) none (victim_is tax ss below)), λ all. victim_none tax ss (none_from_all ss all))
