-- The rule of a head's table: what holds between any two steps, of its word and of what all tokens know.
use Rattle.std.specs.Prelude.{◌≡◌, ℕ, ◌<◌, ◌≤◌, Bool, true, false, List, [], ◌∷◌, length}
use mathlib.Core.Option.{some}
use lib.ListN.{get_elem?}
use Rattle.atomic_table.specs.Table.{State}
use Rattle.items.specs.declared.item.Item.{Item}
use Rattle.items.specs.Items.{own}
use Rattle.log_seats.specs.declared.view.PenView.{PenView}
use Rattle.log_seats.specs.declared.view.SeatView.{SeatView}
use Rattle.log_seats.specs.declared.view.View.{View}
use Rattle.log_seats.specs.Legal.{Legal}

-- where a seat is: with which token, and whether it is the second seat there
abbrev pub Place : Type 0
Place = ℕ × Bool

-- what the tokens know parts of
pub record Whole : Type 0 where
  -- the log
  pub log : List Item
  -- how many seats were made
  pub next : ℕ
  -- the token that has the pen
  pub pen_at : ℕ
  -- where the seat of each number is
  pub seat_at : ℕ → Place

-- a seat is legal for the log, and what it saw has all of its own items
pub record Knows (log : List Item) (seat : SeatView) : Type 0 where
  pub legal : Legal log seat.number seat.saw seat.made
  pub saw_own : own seat.number seat.saw ≡ seat.made

-- a seat is at this place, and knows the log
pub record IsSeatAt (x : Whole) (place : Place) (seat : SeatView) : Type 0 where
  pub at_place : x.seat_at seat.number ≡ place
  pub numbered : seat.number < x.next
  pub knows : Knows x.log seat

-- the pen is with this token, and knows the log
pub record IsPenAt (x : Whole) (token : ℕ) (pen : PenView) : Type 0 where
  pub at_token : token ≡ x.pen_at
  pub log_is : pen.log ≡ x.log
  pub next_is : pen.next ≡ x.next

-- each part of a view that is present is in its place
pub record Fits (x : Whole) (token : ℕ) (v : View) : Type 0 where
  pub pen : v.pen.present ≡ true → IsPenAt x token v.pen
  pub first : v.first.present ≡ true → IsSeatAt x (token, false) v.first
  pub second : v.second.present ≡ true → IsSeatAt x (token, true) v.second

-- there is one log, of which each token knows what its view says; the word is at most its length; no item has the number of a
-- seat that isn't made yet
pub record IsKept (s : State Item View) : Type 0 where
  pub whole : Whole
  pub word : ℕ
  pub words : s.words ≡ word ∷ []
  pub at_most : word ≤ length whole.log
  pub unused : (number : ℕ) → whole.next ≤ number → own number whole.log ≡ []
  pub views : (token : ℕ) (v : View) → get_elem? s.views token ≡ some v → Fits whole token v
