-- How the guests stand.
use Rattle.std.specs.Prelude.{◌≡◌, ℕ, ◌<◌, ◌≤◌, List, length, Some, slice_get}
use Rattle.cell.specs.declared.cell.Cell.{Cell}
use Rattle.monitor_answers.specs.declared.answer.GuestLine.{GuestLine}

-- a line says how a guest stands
pub record IsLineOf {S : Type 0} (guest : ℕ) (cell : Cell S) (line : GuestLine) : Type 0 where
  pub number : line.guest ≡ guest
  pub shares : line.shares ≡ cell.front.shares
  pub resident : line.resident ≤ line.pages

-- one line for each guest, in the order of the guests
pub record AreLines {S : Type 0} (cells : List (Cell S)) (lines : List GuestLine) : Type 0 where
  pub count : length lines ≡ length cells
  pub each : (guest : ℕ) (cell : Cell S) (line : GuestLine) → slice_get cells guest ≡ Some cell → slice_get lines guest ≡ Some line → IsLineOf guest cell line
