-- Which seats are legal for a log.
use Rattle.std.specs.Prelude.{◌≡◌, ℕ, List}
use mathlib.Core.List.{IsPrefix}
use Rattle.items.specs.declared.item.Item.{Item}
use Rattle.items.specs.Items.{own}

-- a seat of this number is legal for a log: what it saw is a beginning of the log, and what it made are the log's items of its
-- number, in order, each once
pub record Legal (log : List Item) (number : ℕ) (saw made : List Item) : Type 0 where
  pub begins : IsPrefix saw log
  pub own_items : own number log ≡ made
