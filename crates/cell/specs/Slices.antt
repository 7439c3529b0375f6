-- A slice: steps of a seat, and the console's input that it brought between them.
use Rattle.std.specs.Prelude.{◌≡◌, ℕ, ◌+◌, List, [], ◌∷◌, ◌++◌}
use mathlib.Core.List.{IsPrefix}
use Rattle.items.specs.declared.item.Item.{Item}
use Rattle.items.specs.declared.item.What.{What}
use Rattle.items.specs.declared.item.What.TheVariants as what
use Rattle.log_seats.specs.Heads.{SeatIs}
use Rattle.log_seats.specs.Legal.{Legal}

-- how many of the items are steps of the processor
abbrev pub one_step : What → ℕ
one_step what.Step = 1
one_step _ = 0

abbrev pub steps_in : List Item → ℕ
steps_in [] = 0
steps_in (i ∷ items) = one_step i.what + steps_in items

-- an item is a step or a byte of console input
abbrev pub IsOfSlice : What → Type 0
IsOfSlice what.Step = Unit {0}
IsOfSlice (what.In byte) = Unit {0}
IsOfSlice _ = ⊥

abbrev pub AreOfSlice : List Item → Type 0
AreOfSlice [] = Unit {0}
AreOfSlice (i ∷ items) = IsOfSlice i.what × AreOfSlice items

-- The seat has made so many steps, and has brought bytes of console input between them, between which items of other seats may stand. It
-- has seen a log that begins with what it had seen, and is legal for it.
pub record Slice (s : SeatIs) (count : ℕ) (s' : SeatIs) : Type 0 where
  -- the seat's own items, in order
  pub mine : List Item
  pub its_seat : s' ≡ record s { saw = s'.saw; made = s.made ++ mine }
  pub begins : IsPrefix s.saw s'.saw
  pub legal : Legal s'.saw s'.number s'.saw s'.made
  pub steps_are : steps_in mine ≡ count
  pub kinds : AreOfSlice mine
