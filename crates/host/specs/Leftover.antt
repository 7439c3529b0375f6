-- What is left over where guests are admitted by their minimums.
use Rattle.std.specs.Prelude.{◌≡◌, ℕ, ◌+◌, ◌-◌, true, false, Option, Some, None, List, sum_by}
use Rattle.booting.specs.declared.asked.Config.{Config}
use Rattle.booting.specs.declared.asked.NewGuest.{NewGuest}

-- of the frames, those beside the pages that the guests always keep and one more for each; of the slots, those beside one for each of their
-- other pages
pub record IsLeftOver (frames slots : ℕ) (guests : List NewGuest) (left : ℕ × ℕ) : Type 0 where
  pub frames_left : left.0 + sum_by (λ (g : NewGuest). g.minimum + 1) guests ≡ frames
  pub slots_left : left.1 + sum_by (λ (g : NewGuest). g.pages - g.minimum) guests ≡ slots

-- what a host says to be left over: nothing is said where the guests needn't be admitted by their minimums
abbrev pub IsRoom : Config → ℕ → List NewGuest → Option (ℕ × ℕ) → Type 0
IsRoom config slots guests None = config.admit ≡ false
IsRoom config slots guests (Some left) = (config.admit ≡ true) × IsLeftOver config.frames slots guests left
