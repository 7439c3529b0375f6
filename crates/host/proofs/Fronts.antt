-- Guests by their numbers.
use Rattle.std.proofs.Common.{◌≡◌, ℕ, List, Some, sym, subst, ◌∙◌}
use Rattle.std.specs.List.{slice_get}
use Rattle.cell.specs.declared.cell.Front.{Front}
use Rattle.cell.specs.declared.cell.Cell.{Cell}
use Rattle.cell.specs.declared.seat.Seat.{Seat}
use Rattle.cell.specs.Sitting.{IsOf}
use Rattle.console_queue.specs.Queues.{FeedIs}
use Rattle.host.specs.Places.{AtGuest}

same_cell : {S : Type 0} (a b : Cell S) → Some a ≡ Some b → a ≡ b
same_cell a b e = cc

pub at_guest : {S : Type 0} {cells : List (Cell S)} {guest : ℕ} {P : Front S → Type 0} (cell : Cell S) → slice_get cells guest ≡ Some cell → P cell.front → AtGuest cells guest P
at_guest {P = P} cell place so = record { each = λ other its. subst (λ (c : Cell _). P c.front) (same_cell cell other (sym place ∙ its)) so }

-- what is so of the front of the guest that stands at that place
pub seat_of : {S : Type 0} (cells : List (Cell S)) (guest : ℕ) (cell : Cell S) (seat : Seat) → slice_get cells guest ≡ Some cell → AtGuest cells guest (λ front. IsOf front seat) → IsOf cell.front seat
seat_of cells guest cell seat place at = at.each cell place

pub feed_of : {S : Type 0} (cells : List (Cell S)) (guest : ℕ) (cell : Cell S) (feed : FeedIs) → slice_get cells guest ≡ Some cell → AtGuest cells guest (λ front. feed.queue ≡ front.queue.id) → feed.queue ≡ cell.front.queue.id
feed_of cells guest cell feed place at = at.each cell place
