-- What the monitor has of the guests.
use Rattle.std.specs.Prelude.{◌≡◌, ℕ, List, Some, slice_get, slice_set}
use Rattle.std.specs.List.{AllZip}
use Rattle.cell.specs.declared.cell.Front.{Front}
use Rattle.cell.specs.declared.cell.Cell.{Cell}
use Rattle.cell.specs.declared.seat.Seat.{Seat}
use Rattle.cell.specs.Sitting.{IsOf}
use Rattle.host.specs.Places.{AtGuest}
use Rattle.monitor_answers.specs.declared.hand.MonitorHand.{MonitorHand}

-- a hand is of the guest behind a front
pub record IsHandOf {S : Type 0} (front : Front S) (hand : MonitorHand) : Type 0 where
  pub seat : IsOf front hand.seat
  pub feed : hand.feed.queue ≡ front.queue.id

-- one hand for each guest, in the order of the guests
abbrev pub AreHands : {S : Type 0} → List (Cell S) → List MonitorHand → Type 0
AreHands cells hands = AllZip (λ (cell : Cell _) (hand : MonitorHand). IsHandOf cell.front hand) cells hands

-- what is kept of each hand's seat
abbrev pub AreKept : (Seat → Seat → Type 0) → List MonitorHand → List MonitorHand → Type 0
AreKept kept hands hands' = AllZip (λ (hand hand' : MonitorHand). kept hand.seat hand'.seat) hands hands'

-- the hand of one guest became another, as this says of both; the others stay as they are
pub record AtHand {S : Type 0} (cells : List (Cell S)) (hands : List MonitorHand) (guest : ℕ) (hands' : List MonitorHand)
    (does : Front S → MonitorHand → MonitorHand → Type 0) : Type 0 where
  pub hand : MonitorHand
  pub hand' : MonitorHand
  pub was : slice_get hands guest ≡ Some hand
  pub is : hands' ≡ slice_set hands guest hand'
  pub done : AtGuest cells guest (λ front. does front hand hand')
