-- What the policy knows of guests.
use Rattle.std.specs.Prelude.{◌≡◌, ℕ, ◌<◌, List, length, max, slice_index_or}
use Rattle.taxpolicy.specs.declared.stat.Stat.{Stat}
use Rattle.cell.specs.declared.cell.Front.{Front}
use Rattle.cell.specs.declared.cell.Cell.{Cell}

-- the numbers of the guest behind a front, which keeps two pages in frames at least
pub record IsStatOf {S : Type 0} (front : Front S) (s : Stat) : Type 0 where
  pub shares : s.shares ≡ front.shares
  pub pages : s.pages ≡ front.pages
  pub minimum : s.minimum ≡ max front.minimum 2
  pub sample : s.sample ≡ 100

-- the numbers of the guests behind these cells, one for each, in the order of the guests
pub record AreStatsOf {S : Type 0} (cells : List (Cell S)) (stats : List Stat) : Type 0 where
  pub count : length stats ≡ length cells
  pub each : (g : ℕ) (c : Cell S) (s : Stat) → g < length cells → IsStatOf (slice_index_or cells g c).front (slice_index_or stats g s)
