-- The log of a guest with its pen, and what an item adds to it.
use Rattle.std.specs.Prelude.{◌≡◌, ℕ, [], ◌∷◌, ◌++◌}
use Rattle.items.specs.declared.item.Item.{Item}
use Rattle.items.specs.Entries.{steps_of}
use Rattle.guest_log.specs.Logs.{LogIs}
use Rattle.log_seats.specs.Heads.{HeadId, PenIs, SeatIs}
use Rattle.log_seats.specs.Legal.{Legal}

pub record OwnedLogIs : Type 0 where
  pub log : LogIs
  -- which head the log has: a seat of the log has the same
  pub head : HeadId
  -- how many seats were made
  pub seats : ℕ

-- a pen is of a head, and has appended the items of a log
pub record IsPenOf (pen : PenIs) (head : HeadId) (log : LogIs) : Type 0 where
  pub its_head : pen.head ≡ head
  pub its_log : pen.log ≡ log.items

-- an item of a seat is added to a log: the seat, which was legal for the log, has made it, has seen the whole log, and is legal
-- for it
pub record Adds (log : LogIs) (seat : SeatIs) (i : Item) (log' : LogIs) (seat' : SeatIs) : Type 0 where
  pub items : log'.items ≡ log.items ++ i ∷ []
  pub limit : log'.limit ≡ log.limit
  pub its_seat : seat' ≡ record seat { saw = log'.items; made = seat.made ++ i ∷ [] }
  pub before : Legal log.items seat.number seat.saw seat.made
  pub after : Legal log'.items seat'.number seat'.saw seat'.made

-- the same of so many steps of the seat, one after another
pub record AddsSteps (log : LogIs) (seat : SeatIs) (count : ℕ) (log' : LogIs) (seat' : SeatIs) : Type 0 where
  pub items : log'.items ≡ log.items ++ steps_of seat.number count
  pub limit : log'.limit ≡ log.limit
  pub its_seat : seat' ≡ record seat { saw = log'.items; made = seat.made ++ steps_of seat.number count }
  pub before : Legal log.items seat.number seat.saw seat.made
  pub after : Legal log'.items seat'.number seat'.saw seat'.made
