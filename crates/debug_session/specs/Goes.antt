-- A seat, call after call.
use Rattle.std.specs.Prelude.{◌≡◌, List, ◌++◌}
use mathlib.Core.List.{IsPrefix}
use Rattle.items.specs.declared.item.Item.{Item}
use Rattle.log_seats.specs.Heads.{SeatIs}
use Rattle.log_seats.specs.Legal.{Legal}

-- The seat has made items, none perhaps, and has seen a log that begins with what it had seen; if it was legal for what it had seen, it is for
-- what it has seen now.
pub record Goes (s s' : SeatIs) : Type 0 where
  pub mine : List Item
  pub its_seat : s' ≡ record s { saw = s'.saw; made = s.made ++ mine }
  pub begins : IsPrefix s.saw s'.saw
  pub legal : Legal s.saw s.number s.saw s.made → Legal s'.saw s'.number s'.saw s'.made
