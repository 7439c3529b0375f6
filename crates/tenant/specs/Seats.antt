-- The seats of a guest.
use Rattle.std.specs.Prelude.{◌≡◌, ℕ, []}
use Rattle.log_seats.specs.Heads.{SeatIs}
use Rattle.guest.specs.Guests.{GuestIs}
use Rattle.tenant.specs.declared.seats.Seats.{Seats}

-- a seat of a guest, of this number
pub record IsSeat (g : GuestIs) (number : ℕ) (seat : SeatIs) : Type 0 where
  pub its_head : seat.head ≡ g.head
  pub its_number : seat.number ≡ number

-- they are the seats 0 to 3 of a guest
pub record AreSeats (g : GuestIs) (seats : Seats) : Type 0 where
  pub runner : IsSeat g 0 seats.runner
  pub console : IsSeat g 1 seats.console
  pub policy : IsSeat g 2 seats.policy
  pub debugger : IsSeat g 3 seats.debugger

-- a seat has seen and made nothing
pub record IsFresh (seat : SeatIs) : Type 0 where
  pub saw : seat.saw ≡ []
  pub made : seat.made ≡ []

pub record AreFresh (seats : Seats) : Type 0 where
  pub runner : IsFresh seats.runner
  pub console : IsFresh seats.console
  pub policy : IsFresh seats.policy
  pub debugger : IsFresh seats.debugger
