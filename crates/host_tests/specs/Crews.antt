-- What is handed out of a guest, but for the policy's seat.
use Rattle.std.specs.Prelude.{◌≡◌, ℕ, List}
use Rattle.console_queue.specs.Queues.{FeedIs}
use Rattle.cell.specs.declared.cell.Cell.{Cell}
use Rattle.cell.specs.declared.seat.Seat.{Seat}
use Rattle.cell.specs.Sitting.{IsOf}
use Rattle.host.specs.Places.{AtGuest}

-- they are of the guest of this number
pub record IsCrewOf {S : Type 0} (cells : List (Cell S)) (guest : ℕ) (runner console debugger : Seat) (feed : FeedIs) : Type 0 where
  pub its_runner : AtGuest cells guest (λ front. IsOf front runner)
  pub its_console : AtGuest cells guest (λ front. IsOf front console)
  pub its_debugger : AtGuest cells guest (λ front. IsOf front debugger)
  pub its_feed : AtGuest cells guest (λ front. feed.queue ≡ front.queue.id)
