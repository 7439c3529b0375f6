-- The items that the entries of a log keep.
use Rattle.std.specs.Prelude.{ℕ, List, [], ◌∷◌, replicate}
use Rattle.std.specs.List.{flat_map}
use Rattle.items.specs.declared.item.Item.{Item}
use Rattle.items.specs.declared.item.What.TheVariants as what
use Rattle.items.specs.declared.entry.Entry.{Entry}
use Rattle.items.specs.declared.entry.Entry.TheVariants as entry

-- a step of a seat
abbrev pub step_by : ℕ → Item
step_by seat = record { seat = seat; what = what.Step }

-- so many steps of a seat, one after another
unfoldable pub steps_of : ℕ → ℕ → List Item
steps_of seat count = replicate count (step_by seat)

-- the items that an entry keeps, in order
abbrev pub items_in : Entry → List Item
items_in (entry.Steps seat count) = steps_of seat count
items_in (entry.One item) = item ∷ []

-- the items that entries keep, in order
abbrev pub items_of : List Entry → List Item
items_of = flat_map items_in
