-- Which guest's page leaves its frame.
use Rattle.std.specs.Prelude.{◌≡◌, ℕ, ◌<◌, ◌⊎◌, List, Option, Some, None, All, length}
use Rattle.taxpolicy.specs.declared.stat.Stat.{Stat}
use Rattle.taxpolicy.specs.Victim.{IsEligible, victim_of}
use Rattle.lent_pages.specs.declared.evicting.EvictError.{EvictError}
use Rattle.lent_pages.specs.declared.evicting.EvictError.TheVariants as refused
use Rattle.cell.specs.declared.cell.Cell.{Cell}
use Rattle.cell.specs.declared.moves.Kept.{Kept}
use Rattle.cell.specs.declared.moves.Kept.TheVariants as kept
use Rattle.host_policy.specs.declared.evicting.Evicted.{Evicted}
use Rattle.host_policy.specs.declared.evicting.Evicted.TheVariants.{Page, Nobody, NoSwap, SwapWrite}
use Rattle.host_policy.specs.Numbers.{AreStatsOf}

-- By numbers of all guests that were found, each under its guest's lock, and at the tax then, the policy's victim was this guest.
pub record IsVictim {S : Type 0} (cells : List (Cell S)) (g : ℕ) : Type 0 where
  pub there : g < length cells
  pub stats : List Stat
  pub found : AreStatsOf cells stats
  pub tax : ℕ
  pub below : tax < 100
  pub victim : victim_of tax stats ≡ Some g

-- by numbers of all guests that were found, each under its guest's lock, none had more pages in frames than it always keeps
pub record NobodyWasEligible {S : Type 0} (cells : List (Cell S)) : Type 0 where
  pub stats : List Stat
  pub found : AreStatsOf cells stats
  pub nobody : All (λ s. ¬ IsEligible s) stats

-- so many victims were chosen, one after another
pub record WereVictims {S : Type 0} (cells : List (Cell S)) (count : ℕ) : Type 0 where
  pub victims : List ℕ
  pub count_is : length victims ≡ count
  pub each : All (IsVictim cells) victims

-- What was answered when a page of the policy's victim was to leave its frame. Where nobody's has left, nobody had one to lose, or 64
-- victims in a row had none any more once they were chosen.
abbrev pub IsAnswer : {S : Type 0} → List (Cell S) → Evicted → Type 0
IsAnswer cells (Page g p) = IsVictim cells g
IsAnswer cells Nobody = NobodyWasEligible cells ⊎ WereVictims cells 64
IsAnswer cells NoSwap = WereVictims cells 1
IsAnswer cells SwapWrite = WereVictims cells 1

-- Why no page of any guest is tried after one that stays in its frame; none where the rest of its guest's pages alone stay too.
abbrev pub refusal_of : Kept → Option EvictError
refusal_of kept.AtMinimum = None
refusal_of kept.NoSwap = Some refused.NoSwap
refusal_of kept.SwapWrite = Some refused.SwapWrite
