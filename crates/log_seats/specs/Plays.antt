-- What the steps of a head's table tell.
use Rattle.std.specs.Prelude.{◌≡◌, ℕ, ◌-◌, max, List, [], ◌∷◌, length, replicate}
use mathlib.Core.Option.{some}
use Rattle.atomic_table.specs.Table.{Step, Me}
use Rattle.items.specs.declared.item.Item.{Item}
use Rattle.items.specs.Entries.{step_by}
use Rattle.log_seats.specs.declared.view.SeatView.{SeatView}
use Rattle.log_seats.specs.declared.view.View.{View}
use Rattle.log_seats.specs.Legal.{Legal}
use Rattle.log_seats.specs.Views.{seat_seeing, pen_with, seat_with}

-- a seat is legal for a log
abbrev pub IsLegalFor : List Item → SeatView → Type 0
IsLegalFor log seat = Legal log seat.number seat.saw seat.made

-- the pen has appended items of the seat beside it, which was legal for the log
pub record Appends (v : View) (items : List Item) (w : View) : Type 0 where
  pub pen : w.pen ≡ pen_with v.pen items
  pub seat : w.first ≡ seat_with v.first v.pen.log items
  pub legal : IsLegalFor v.pen.log v.first

-- the seat beside the pen has then seen the log, for which it is legal
pub record Settles (v w : View) : Type 0 where
  pub pen : w.pen ≡ v.pen
  pub seat : w.first ≡ seat_seeing v.first v.pen.log
  pub legal : IsLegalFor v.pen.log v.first

-- a seat has then seen a log for which it is legal, as long as the word says or as what it had seen
pub record Looks (v : View) (found : ℕ) (w : View) : Type 0 where
  pub seat : w.first ≡ seat_seeing v.first w.first.saw
  pub long : length w.first.saw ≡ max (length v.first.saw) found
  pub legal : IsLegalFor w.first.saw v.first

-- the same of two seats, and of one log
pub record LooksTogether (v : View) (found : ℕ) (w : View) : Type 0 where
  pub first : w.first ≡ seat_seeing v.first w.first.saw
  pub second : w.second ≡ seat_seeing v.second w.first.saw
  pub long : length w.first.saw ≡ max (max (length v.first.saw) (length v.second.saw)) found
  pub first_legal : IsLegalFor w.first.saw v.first
  pub second_legal : IsLegalFor w.first.saw v.second

-- a step of the table that announces an item, and by which the word is to be the length of the new log: so many copies are added
abbrev pub AppendsCopies : Step Item → Me Item View → ℕ → Me Item View → Type 0
AppendsCopies s v found w =
    (item : Item) → s.said ≡ some item → Appends v.0 (replicate (s.second - length v.0.pen.log) item) w.0

-- one that adds a step of the processor
abbrev pub AppendsStep : Step Item → Me Item View → ℕ → Me Item View → Type 0
AppendsStep s v found w = Appends v.0 (step_by v.0.first.number ∷ []) w.0

abbrev pub SeatSettles : Step Item → Me Item View → ℕ → Me Item View → Type 0
SeatSettles s v found w = Settles v.0 w.0

-- one that tells nothing
abbrev pub Publishes : Step Item → Me Item View → ℕ → Me Item View → Type 0
Publishes s v found w = w.0.pen ≡ v.0.pen

abbrev pub SeatLooks : Step Item → Me Item View → ℕ → Me Item View → Type 0
SeatLooks s v found w = Looks v.0 found w.0

abbrev pub SeatsLook : Step Item → Me Item View → ℕ → Me Item View → Type 0
SeatsLook s v found w = LooksTogether v.0 found w.0
