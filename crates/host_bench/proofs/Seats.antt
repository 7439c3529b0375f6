-- What was handed out of a guest, one by one.
use Rattle.std.proofs.Common.{◌≡◌, ℕ, List}
use Rattle.cell.specs.declared.cell.Cell.{Cell}
use Rattle.cell.specs.Sitting.{IsOf}
use Rattle.guest_cells.specs.declared.handles.Handles.{Handles}
use Rattle.guest_cells.specs.Handles.{AreHandlesOf}
use Rattle.host.specs.Places.{AtGuest}

pub runner_of : {S : Type 0} (cells : List (Cell S)) (guest : ℕ) (h : Handles) → AtGuest cells guest (λ front. AreHandlesOf front h) → AtGuest cells guest (λ front. IsOf front h.seats.runner)
runner_of cells guest h at = record { each = λ cell its. (at.each cell its).seats.runner }

pub console_of : {S : Type 0} (cells : List (Cell S)) (guest : ℕ) (h : Handles) → AtGuest cells guest (λ front. AreHandlesOf front h) → AtGuest cells guest (λ front. IsOf front h.seats.console)
console_of cells guest h at = record { each = λ cell its. (at.each cell its).seats.console }

pub debugger_of : {S : Type 0} (cells : List (Cell S)) (guest : ℕ) (h : Handles) → AtGuest cells guest (λ front. AreHandlesOf front h) → AtGuest cells guest (λ front. IsOf front h.seats.debugger)
debugger_of cells guest h at = record { each = λ cell its. (at.each cell its).seats.debugger }

pub feed_of : {S : Type 0} (cells : List (Cell S)) (guest : ℕ) (h : Handles) → AtGuest cells guest (λ front. AreHandlesOf front h) → AtGuest cells guest (λ front. h.feed.queue ≡ front.queue.id)
feed_of cells guest h at = record { each = λ cell its. (at.each cell its).feed }
