-- How many of some items are steps.
use Rattle.std.specs.Prelude.{ℕ, if◌then◌else◌, List, sum_by}
use Rattle.items.specs.declared.item.Item.{Item}
use Rattle.items.specs.Items.{is_step}

abbrev pub one_step : Item → ℕ
one_step i = if is_step i.what then 1 else 0

abbrev pub step_count : List Item → ℕ
step_count items = sum_by one_step items
