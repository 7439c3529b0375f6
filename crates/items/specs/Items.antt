-- Items, and the seats that they come from.
use Rattle.std.specs.Prelude.{ℕ, Bool, true, false, ◌==◌, if◌then◌else◌, List, [], ◌∷◌}
use Rattle.items.specs.declared.item.Item.{Item}
use Rattle.items.specs.declared.item.What.{What}
use Rattle.items.specs.declared.item.What.TheVariants as what

-- a step of the processor
abbrev pub is_step : What → Bool
is_step what.Step = true
is_step (what.In byte) = false
is_step what.Drain = false
is_step (what.Target pages) = false
is_step (what.Poke register value) = false
is_step (what.Write address bytes) = false

-- the items of one seat, in order
abbrev pub own : ℕ → List Item → List Item
own seat [] = []
own seat (i ∷ items) = if i.seat == seat then i ∷ own seat items else own seat items
