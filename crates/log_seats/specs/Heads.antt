-- What is seen of a pen and of a seat.
use Rattle.std.specs.Prelude.{ℕ, List}
use Rattle.atomic_table.specs.Seated.{TableId}
use Rattle.items.specs.declared.item.Item.{Item}

-- which head it is
abbrev pub HeadId : Type 0
HeadId = TableId

pub record PenIs : Type 0 where
  -- the head that the pen belongs to
  pub head : HeadId
  -- all items that were appended, in order
  pub log : List Item
  -- how many seats were made: the number of the next one
  pub next : ℕ

pub record SeatIs : Type 0 where
  -- the head that the seat belongs to
  pub head : HeadId
  -- the number that the seat's items have
  pub number : ℕ
  -- what it has seen
  pub saw : List Item
  -- the items that it has made, in order
  pub made : List Item
