-- Guests by their numbers.
use Rattle.std.specs.Prelude.{◌≡◌, ℕ, List, Some}
use Rattle.std.specs.List.{slice_get}
use Rattle.cell.specs.declared.cell.Front.{Front}
use Rattle.cell.specs.declared.cell.Cell.{Cell}

-- something is so of the front of the guest of this number
pub record AtGuest {S : Type 0} (cells : List (Cell S)) (guest : ℕ) (P : Front S → Type 0) : Type 0 where
  pub each : (cell : Cell S) → slice_get cells guest ≡ Some cell → P cell.front
