-- What stands at the places of guests.
use Rattle.std.specs.Prelude.{◌≡◌, ℕ, List, Some, slice_get}
use Rattle.cell.specs.declared.cell.Front.{Front}
use Rattle.cell.specs.declared.cell.Cell.{Cell}
use Rattle.guest_cells.specs.declared.handles.Handles.{Handles}
use Rattle.guest_cells.specs.Handles.{AreHandlesOf}
use Rattle.host.specs.Places.{AtGuest}

-- something is so of what stands at each place
pub record AtEach {A : Type 0} (P : ℕ → A → Type 0) (xs : List A) : Type 0 where
  pub each : (g : ℕ) (x : A) → slice_get xs g ≡ Some x → P g x

-- what is handed out of a guest at its boot
pub record IsHandedOut {S : Type 0} (front : Front S) (handles : Handles) : Type 0 where
  pub its : AreHandlesOf front handles
  pub policy : handles.seats.policy.seat.number ≡ 2

-- what is handed out of each guest, in the order of the guests
abbrev pub AreHandedOut : {S : Type 0} → List (Cell S) → List Handles → Type 0
AreHandedOut cells all = AtEach (λ (g : ℕ) (h : Handles). AtGuest cells g (λ front. IsHandedOut front h)) all
