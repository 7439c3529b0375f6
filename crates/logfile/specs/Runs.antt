-- The items of the file that hold an entry.
use Rattle.std.specs.Prelude.{ℕ, ◌-◌, ◌*◌, ◌/◌, ◌≤◌, List, [], ◌∷◌, ◌++◌, replicate, ⊤}
use Rattle.std.specs.List.{flat_map}
use Rattle.items.specs.declared.item.What.{What}
use Rattle.items.specs.declared.item.What.TheVariants as what
use Rattle.items.specs.declared.entry.Entry.{Entry}
use Rattle.items.specs.declared.entry.Entry.TheVariants as entry

-- the most steps that one item of the file can hold
abbrev pub max_run : ℕ
max_run = 4294967295

-- how many items of the most steps stand before the last item of a run, which holds at least one step
abbrev pub full_runs : ℕ → ℕ
full_runs count = (count - 1) / max_run

-- a run: items of the most steps, and one of the steps that are left
unfoldable pub run_entries : ℕ → ℕ → List Entry
run_entries seat count =
    replicate (full_runs count) (entry.Steps seat max_run) ++ entry.Steps seat (count - max_run * full_runs count) ∷ []

-- a step by itself is a run of one
abbrev pub what_entries : ℕ → What → List Entry
what_entries seat what.Step = run_entries seat 1
what_entries seat other = entry.One (record { seat = seat; what = other }) ∷ []

abbrev pub written_entries : Entry → List Entry
written_entries (entry.Steps seat count) = run_entries seat count
written_entries (entry.One item) = what_entries item.seat item.what

-- the entries of the file of a log
abbrev pub file_entries : List Entry → List Entry
file_entries = flat_map written_entries

-- it holds at least one item
abbrev pub HasItems : Entry → Type 0
HasItems (entry.Steps seat count) = 1 ≤ count
HasItems (entry.One item) = ⊤
