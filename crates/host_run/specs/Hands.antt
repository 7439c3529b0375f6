-- What was handed out, by the threads of a run.
use Rattle.std.specs.Prelude.{◌≡◌, ◌≤◌, ℕ, List, [], ◌∷◌, length, map, vec_capacity}
use Rattle.cell.specs.declared.cell.Cell.{Cell}
use Rattle.cell.specs.declared.seat.Seat.{Seat}
use Rattle.guest_cells.specs.declared.handles.Handles.{Handles}
use Rattle.monitor_answers.specs.declared.hand.MonitorHand.{MonitorHand}
use Rattle.monitor_answers.specs.Hands.{AreHands}
use Rattle.host_run.specs.declared.hands.Hands.{Hands}
use Rattle.host_run.specs.Seats.{AreSeats}

-- what each thread has of a guest
abbrev pub runner_of : Handles → Seat
runner_of handles = handles.seats.runner

abbrev pub hand_of : Handles → MonitorHand
hand_of handles = record { seat = handles.seats.console; feed = handles.feed }

abbrev pub policy_of : Handles → Seat
policy_of handles = handles.seats.policy

abbrev pub debugger_of : Handles → Seat
debugger_of handles = handles.seats.debugger

-- what was handed out is dealt to the threads, with room for all of it together again
pub record AreDealt (all : List Handles) (hands : Hands) : Type 0 where
  pub runners : hands.runners.items ≡ map runner_of all
  pub monitors : hands.monitors.items ≡ map hand_of all
  pub policies : hands.policies.items ≡ map policy_of all
  pub debuggers : hands.debuggers.items ≡ map debugger_of all
  pub none : hands.room.items ≡ []
  pub room : length all ≤ vec_capacity hands.room

-- what is of a guest, of the hands of four threads
abbrev pub handles_of : Seat → MonitorHand → Seat → Seat → Handles
handles_of runner hand policy debugger =
    record { seats = record { runner = runner; console = hand.seat; policy = policy; debugger = debugger }; feed = hand.feed }

-- what is of each guest, of the hands of four threads
abbrev pub joined : List Seat → List MonitorHand → List Seat → List Seat → List Handles
joined (r ∷ runners) (m ∷ monitors) (p ∷ policies) (d ∷ debuggers) = handles_of r m p d ∷ joined runners monitors policies debuggers
joined _ _ _ _ = []

-- the hands are those of all guests, with room for all of it together again
pub record AreAllHands {S : Type 0} (cells : List (Cell S)) (hands : Hands) : Type 0 where
  pub runners : AreSeats 0 cells hands.runners.items
  pub monitors : AreHands cells hands.monitors.items
  pub policies : AreSeats 2 cells hands.policies.items
  pub debuggers : AreSeats 3 cells hands.debuggers.items
  pub none : hands.room.items ≡ []
  pub room : length cells ≤ vec_capacity hands.room
