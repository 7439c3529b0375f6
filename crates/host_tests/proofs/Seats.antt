-- What was handed out of a guest, of which one seat has been used.
use Rattle.std.proofs.Common.{◌≡◌, ℕ, List, ◌∙◌}
use Rattle.console_queue.specs.Queues.{FeedIs}
use Rattle.cell.specs.declared.cell.Cell.{Cell}
use Rattle.cell.specs.declared.seat.Seat.{Seat}
use Rattle.cell.specs.Sitting.{IsOf}
use Rattle.guest_cells.specs.declared.handles.Handles.{Handles}
use Rattle.guest_cells.specs.Handles.{AreHandlesOf}
use Rattle.host.specs.Places.{AtGuest}
use Rattle.host_tests.specs.Each.{IsHandedOut}

pub its_handles : {S : Type 0} (cells : List (Cell S)) (guest : ℕ) (h : Handles) → AtGuest cells guest (λ front. IsHandedOut front h) → AtGuest cells guest (λ front. AreHandlesOf front h)
its_handles cells guest h at = record { each = λ cell its. (at.each cell its).its }

pub runner_of : {S : Type 0} (cells : List (Cell S)) (guest : ℕ) (h : Handles) → AtGuest cells guest (λ front. AreHandlesOf front h) → AtGuest cells guest (λ front. IsOf front h.seats.runner)
runner_of cells guest h at = record { each = λ cell its. (at.each cell its).seats.runner }

pub debugger_of : {S : Type 0} (cells : List (Cell S)) (guest : ℕ) (h : Handles) → AtGuest cells guest (λ front. AreHandlesOf front h) → AtGuest cells guest (λ front. IsOf front h.seats.debugger)
debugger_of cells guest h at = record { each = λ cell its. (at.each cell its).seats.debugger }

pub with_runner : {S : Type 0} (cells : List (Cell S)) (guest : ℕ) (h : Handles) (s : Seat) → AtGuest cells guest (λ front. AreHandlesOf front h) → AtGuest cells guest (λ front. IsOf front s)
    → AtGuest cells guest (λ front. AreHandlesOf front (record h { seats = record h.seats { runner = s } }))
with_runner cells guest h s at of = record {
  each = λ cell its. let was = at.each cell its in
      record { seats = record { runner = of.each cell its; console = was.seats.console; policy = was.seats.policy; debugger = was.seats.debugger }; feed = was.feed };
}

pub with_debugger : {S : Type 0} (cells : List (Cell S)) (guest : ℕ) (h : Handles) (s : Seat) → AtGuest cells guest (λ front. AreHandlesOf front h) → AtGuest cells guest (λ front. IsOf front s)
    → AtGuest cells guest (λ front. AreHandlesOf front (record h { seats = record h.seats { debugger = s } }))
with_debugger cells guest h s at of = record {
  each = λ cell its. let was = at.each cell its in
      record { seats = record { runner = was.seats.runner; console = was.seats.console; policy = was.seats.policy; debugger = of.each cell its }; feed = was.feed };
}

pub feed_of : {S : Type 0} (cells : List (Cell S)) (guest : ℕ) (h : Handles) → AtGuest cells guest (λ front. AreHandlesOf front h) → AtGuest cells guest (λ front. h.feed.queue ≡ front.queue.id)
feed_of cells guest h at = record { each = λ cell its. (at.each cell its).feed }

pub with_feed : {S : Type 0} (cells : List (Cell S)) (guest : ℕ) (h : Handles) (f : FeedIs) → AtGuest cells guest (λ front. AreHandlesOf front h) → f.queue ≡ h.feed.queue
    → AtGuest cells guest (λ front. AreHandlesOf front (record h { feed = f }))
with_feed cells guest h f at same = record { each = λ cell its. record { seats = (at.each cell its).seats; feed = same ∙ (at.each cell its).feed } }
