-- What was found of guests, and who is the policy's victim by it.
use Rattle.std.proofs.Common.{◌≡◌, ℕ, ◌+◌, ◌<◌, List, [], ◌∷◌, Option, Some, None, MatchOption, IfSome, length, get_or, refl, sym, ◌∙◌, subst, arith, lit≤}
use Rattle.std.proofs.lemmas.List.Elements.{All-nil, All-cons}
use Rattle.taxpolicy.specs.declared.stat.Stat.{Stat}
use Rattle.taxpolicy.specs.Victim.{victim_of}
use Rattle.sampling.specs.declared.sample.Sample.{Sample}
use Rattle.cell.specs.declared.cell.Cell.{Cell}
use Rattle.host_policy.specs.Samples.{AreSampledBy}
use Rattle.host_policy.specs.Numbers.{IsStatOf, AreStatsOf}
use Rattle.host_policy.specs.Evictions.{IsVictim, WereVictims}

-- the numbers of the first so many guests
abbrev pub FoundBelow : {S : Type 0} → List (Cell S) → List Stat → ℕ → Type 0
FoundBelow {S = S} cells stats n = (k : ℕ) (c : Cell S) (s : Stat) → k < n → IsStatOf (get_or cells k c).front (get_or stats k s)

no_sample : Sample
no_sample = record { draws = None; active = 0; few = lit≤ tt }

-- numbers that were found are so too with what samples say
pub still_found : {S : Type 0} (cells : List (Cell S)) (samples : List Sample) (stats stats' : List Stat) → AreStatsOf cells stats → AreSampledBy samples stats stats' → AreStatsOf cells stats'
still_found cells samples stats stats' found by = record {
  count = by.count ∙ found.count;
  each = λ g c s below.
      let its = by.each g no_sample s s (subst (λ (n : ℕ). g < n) (sym found.count) below) in
      let was = found.each g c s below in
      record { shares = its.shares ∙ was.shares; pages = its.pages ∙ was.pages; minimum = its.minimum ∙ was.minimum; sample = its.sample_is };
}

pub chosen : {S : Type 0} (cells : List (Cell S)) (stats : List Stat) (tax n : ℕ) (result : Option (ℕ × ℕ)) → AreStatsOf cells stats → tax < 100
    → MatchOption result (victim_of tax stats ≡ None) (λ (it : ℕ × ℕ). victim_of tax stats ≡ Some it.0) → IfSome result (λ (it : ℕ × ℕ). it.0 < n) → n ≡ length cells
    → IfSome result (λ (it : ℕ × ℕ). IsVictim cells it.0)
chosen cells stats tax n None found below victim there same = there
chosen cells stats tax n (Some it) found below victim there same = record {
  there = subst (λ (m : ℕ). it.0 < m) same there;
  stats = stats;
  found = found;
  tax = tax;
  below = below;
  victim = victim;
}

pub no_victims : {S : Type 0} (cells : List (Cell S)) → WereVictims cells 0
no_victims cells = record { victims = []; count_is = refl; each = All-nil (IsVictim cells) }

-- a victim more
pub more_victims : {S : Type 0} (cells : List (Cell S)) (count g : ℕ) → WereVictims cells count → IsVictim cells g → WereVictims cells (count + 1)
more_victims cells count g were its = record {
  victims = g ∷ were.victims;
  count_is = omega (arith, were.count_is);
  each = All-cons (IsVictim cells) g were.victims its were.each;
}

pub one_victim : {S : Type 0} (cells : List (Cell S)) (g : ℕ) → IsVictim cells g → WereVictims cells 1
one_victim cells g its = record { victims = g ∷ []; count_is = refl; each = All-cons (IsVictim cells) g [] its (All-nil (IsVictim cells)) }
