-- The runs that items are stored in, and the run of steps that they end in.
use Rattle.std.specs.Prelude.{◌≡◌, ℕ, ◌+◌, ◌≤◌, ◌^◌, ◌==◌, ◌&&◌, Bool, false, if◌then◌else◌, Option, Some, None, List, [], ◌∷◌}
use Rattle.std.specs.List.{last_or, suffix_len}
use Rattle.items.specs.declared.item.Item.{Item}
use Rattle.items.specs.declared.entry.Entry.{Entry}
use Rattle.items.specs.declared.entry.Entry.TheVariants as entry
use Rattle.items.specs.Items.{is_step}
use Rattle.items.specs.Entries.{step_by}

-- whether an item joins the run of the item before it: both are steps of one seat
abbrev pub joins : Item → Item → Bool
joins earlier i = is_step earlier.what && (is_step i.what && (earlier.seat == i.seat))

-- how many runs an item adds after another
abbrev pub added_after : Item → Item → ℕ
added_after earlier i = if joins earlier i then 0 else 1

-- the same after the item before, if there is one
abbrev pub added : Option Item → Item → ℕ
added None i = 1
added (Some earlier) i = added_after earlier i

-- how many runs items add after the item before them, if there is one
abbrev pub runs_after : Option Item → List Item → ℕ
runs_after earlier [] = 0
runs_after earlier (i ∷ items) = added earlier i + runs_after (Some i) items

-- the fewest runs that items can be stored in: each item adds one, but a step that follows a step of the same seat
abbrev pub run_count : List Item → ℕ
run_count items = runs_after None items

-- whether a step of this seat begins a run after items
abbrev pub BeginsRun : List Item → ℕ → Type 0
BeginsRun items seat = added (last_or None items) (step_by seat) ≡ 1

-- the run that ends in this last item: where it is a step, how many items from the end back are steps of its seat
abbrev pub run_ending : Option Item → List Item → Option Entry
run_ending None items = None
run_ending (Some i) items = if is_step i.what then Some (entry.Steps i.seat (suffix_len (joins i) items)) else None

-- the run of steps that items end in, if the last item is a step
unfoldable pub last_run : List Item → Option Entry
last_run items = run_ending (last_or None items) items

-- what an entry of a log is: a run of at least one step and at most 2^62, or an item that is no step
abbrev pub IsStored : Entry → Type 0
IsStored (entry.Steps seat count) = (1 ≤ count) × (count ≤ 2 ^ 62)
IsStored (entry.One item) = is_step item.what ≡ false
