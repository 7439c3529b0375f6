-- Whose the seats of a run are.
use Rattle.std.specs.Prelude.{◌≡◌, ℕ, List, length, Some, slice_get}
use Rattle.cell.specs.declared.cell.Front.{Front}
use Rattle.cell.specs.declared.cell.Cell.{Cell}
use Rattle.cell.specs.declared.seat.Seat.{Seat}
use Rattle.cell.specs.Sitting.{IsOf}
use Rattle.guest_cells.specs.declared.handles.Handles.{Handles}

-- the seat of this number of the guest behind a front
pub record IsSeat {S : Type 0} (front : Front S) (number : ℕ) (seat : Seat) : Type 0 where
  pub its : IsOf front seat
  pub its_number : seat.seat.number ≡ number

-- one of this number for each guest, in the order of the guests
pub record AreSeats {S : Type 0} (number : ℕ) (cells : List (Cell S)) (seats : List Seat) : Type 0 where
  pub count : length seats ≡ length cells
  pub each : (guest : ℕ) (cell : Cell S) (seat : Seat) → slice_get cells guest ≡ Some cell → slice_get seats guest ≡ Some seat → IsSeat cell.front number seat

-- What was handed out of the guest behind a front: to its runner seat 0, to the monitor a seat and the right to put bytes for the console, to the
-- policy seat 2, to its debugger seat 3.
pub record IsHandedOut {S : Type 0} (front : Front S) (handles : Handles) : Type 0 where
  pub runner : IsSeat front 0 handles.seats.runner
  pub console : IsOf front handles.seats.console
  pub policy : IsSeat front 2 handles.seats.policy
  pub debugger : IsSeat front 3 handles.seats.debugger
  pub feed : handles.feed.queue ≡ front.queue.id

-- what was handed out of all guests, in their order
pub record AreHandedOut {S : Type 0} (cells : List (Cell S)) (all : List Handles) : Type 0 where
  pub count : length all ≡ length cells
  pub each : (guest : ℕ) (cell : Cell S) (handles : Handles) → slice_get cells guest ≡ Some cell → slice_get all guest ≡ Some handles → IsHandedOut cell.front handles
