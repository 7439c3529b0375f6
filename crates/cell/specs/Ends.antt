-- The seats of a guest, at first and at the end.
use Rattle.std.specs.Prelude.{◌≡◌, ℕ, Bool, true, List, []}
use Rattle.items.specs.declared.item.Item.{Item}
use Rattle.log_seats.specs.Heads.{HeadId, SeatIs}
use Rattle.log_seats.specs.Legal.{Legal}
use Rattle.cell.specs.declared.cell.Front.{Front}
use Rattle.cell.specs.declared.seat.Seat.{Seat}
use Rattle.cell.specs.declared.seat.Seats.{Seats}
use Rattle.cell.specs.declared.parts.Parts.{Parts}
use Rattle.cell.specs.Sitting.{IsOf}

-- a seat of a guest's log, of this number, has seen and made nothing
pub record IsFresh (head : HeadId) (number : ℕ) (seat : SeatIs) : Type 0 where
  pub its_head : seat.head ≡ head
  pub its_number : seat.number ≡ number
  pub saw : seat.saw ≡ []
  pub made : seat.made ≡ []

-- a front says what the guest was made of
pub record HasParts {S : Type 0} (front : Front S) (parts : Parts) : Type 0 where
  pub head : front.head.value ≡ parts.guest.head
  pub profile : front.profile ≡ parts.profile
  pub image : front.image ≡ parts.image
  pub pages : front.pages ≡ parts.pages
  pub limit : front.limit ≡ parts.limit
  pub shares : front.shares ≡ parts.shares
  pub minimum : front.minimum ≡ parts.minimum

-- the four are of the guest behind a front
pub record AreOf {S : Type 0} (front : Front S) (seats : Seats) : Type 0 where
  pub runner : IsOf front seats.runner
  pub console : IsOf front seats.console
  pub policy : IsOf front seats.policy
  pub debugger : IsOf front seats.debugger

-- a seat of this number has seen and made nothing, and its guest's truth has held
pub record IsNew (number : ℕ) (seat : Seat) : Type 0 where
  pub its_number : seat.seat.number ≡ number
  pub saw : seat.seat.saw ≡ []
  pub made : seat.seat.made ≡ []
  pub held : seat.witness.held ≡ true

pub record AreNew (seats : Seats) : Type 0 where
  pub runner : IsNew 0 seats.runner
  pub console : IsNew 1 seats.console
  pub policy : IsNew 2 seats.policy
  pub debugger : IsNew 3 seats.debugger

-- A seat was legal for the log, and has now seen it. Where the guest's truth holds, it held all along for the seat.
pub record IsSettled (log : List Item) (holds : Bool) (seat seat' : Seat) : Type 0 where
  pub was_legal : Legal log seat.seat.number seat.seat.saw seat.seat.made
  pub its_seat : seat'.seat ≡ record seat.seat { saw = log }
  pub its_truth : seat'.witness ≡ record seat.witness { held = holds }
  pub held : holds ≡ true → seat.witness.held ≡ true

pub record AreSettled (log : List Item) (holds : Bool) (seats seats' : Seats) : Type 0 where
  pub runner : IsSettled log holds seats.runner seats'.runner
  pub console : IsSettled log holds seats.console seats'.console
  pub policy : IsSettled log holds seats.policy seats'.policy
  pub debugger : IsSettled log holds seats.debugger seats'.debugger
