-- What is kept of a guest's truth.
use Rattle.std.specs.Prelude.{◌≡◌, true}
use Rattle.cell.specs.declared.seat.Seat.{Seat}

-- where a seat knew that its guest's truth holds, it still does
pub record HoldsOn (seat seat' : Seat) : Type 0 where
  pub held : seat.witness.held ≡ true → seat'.witness.held ≡ true
