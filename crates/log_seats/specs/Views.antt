-- Views of a head's table.
use Rattle.std.specs.Prelude.{ℕ, true, false, List, [], ◌++◌}
use Rattle.items.specs.declared.item.Item.{Item}
use Rattle.log_seats.specs.declared.view.PenView.{PenView}
use Rattle.log_seats.specs.declared.view.SeatView.{SeatView}
use Rattle.log_seats.specs.declared.view.View.{View}

-- no pen, no seat
abbrev pub no_pen : PenView
no_pen = record { present = false; log = []; next = 0 }

abbrev pub no_seat : SeatView
no_seat = record { present = false; number = 0; saw = []; made = [] }

-- the pen of a log with so many seats, and a seat that has seen and made nothing
abbrev pub pen_of : List Item → ℕ → PenView
pen_of log next = record { present = true; log = log; next = next }

abbrev pub new_seat : ℕ → SeatView
new_seat number = record { present = true; number = number; saw = []; made = [] }

-- the pen and a seat, the pen alone, two seats, one seat, nothing
abbrev pub pen_beside : PenView → SeatView → View
pen_beside pen seat = record { pen = pen; first = seat; second = no_seat }

abbrev pub pen_alone : PenView → View
pen_alone pen = pen_beside pen no_seat

abbrev pub two_seats : SeatView → SeatView → View
two_seats first second = record { pen = no_pen; first = first; second = second }

abbrev pub seat_alone : SeatView → View
seat_alone seat = two_seats seat no_seat

abbrev pub nobody : View
nobody = seat_alone no_seat

-- the pen once these items are appended, and the seat that has made them and has seen the whole log
abbrev pub pen_with : PenView → List Item → PenView
pen_with pen items = record { present = pen.present; log = pen.log ++ items; next = pen.next }

abbrev pub seat_with : SeatView → List Item → List Item → SeatView
seat_with seat log items = record { present = seat.present; number = seat.number; saw = log ++ items; made = seat.made ++ items }

-- a seat once it has seen this log
abbrev pub seat_seeing : SeatView → List Item → SeatView
seat_seeing seat log = record { present = seat.present; number = seat.number; saw = log; made = seat.made }
