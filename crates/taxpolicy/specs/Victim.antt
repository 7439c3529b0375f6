-- Which guest gives up a page (Waldspurger, OSDI 2002, sections 5.1 and 5.2): the one with the least adjusted ratio.
use Rattle.std.specs.Prelude.{◌≡◌, ℕ, ◌<◌, ◌≤◌, Bool, ◌&&◌, not, nat_lt, List, Option, Some, slice_get, position}
use Rattle.std.specs.List.{list_any}
use Rattle.taxpolicy.specs.Ratio.{ratio, RatioLess, SameRatio, is_ratio_less}
use Rattle.taxpolicy.specs.declared.stat.Stat.{Stat}

-- a guest that has more resident pages than its minimum may lose one
abbrev pub IsEligible : Stat → Type 0
IsEligible s = s.minimum < s.resident

abbrev pub is_eligible : Stat → Bool
is_eligible s = nat_lt s.minimum s.resident

-- guest g is eligible, no eligible guest has a smaller ratio, and none of the same ratio has a smaller number
pub record IsLeast (tax : ℕ) (stats : List Stat) (g : ℕ) : Type 0 where
  pub guest : Stat
  pub there : slice_get stats g ≡ Some guest
  pub eligible : IsEligible guest
  pub least : (k : ℕ) (other : Stat) → slice_get stats k ≡ Some other → IsEligible other → ¬ RatioLess (ratio tax other) (ratio tax guest)
  pub first : (k : ℕ) (other : Stat) → slice_get stats k ≡ Some other → IsEligible other → SameRatio (ratio tax other) (ratio tax guest) → g ≤ k

-- whether a guest is eligible and no eligible one of these has a smaller ratio
abbrev pub is_least : ℕ → List Stat → Stat → Bool
is_least tax stats s = is_eligible s && not (list_any (λ other. is_eligible other && is_ratio_less (ratio tax other) (ratio tax s)) stats)

-- the number of the first such guest
unfoldable pub victim_of : ℕ → List Stat → Option ℕ
victim_of tax stats = position (is_least tax stats) stats
