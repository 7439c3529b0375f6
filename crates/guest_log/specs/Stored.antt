-- How a log is stored.
use Rattle.std.specs.Prelude.{◌≡◌, ℕ, ◌≤◌, ◌^◌, ◌==◌, if◌then◌else◌, Option, Some, None, List, ◌++◌, length, All, option_to_list}
use Rattle.items.specs.declared.entry.Entry.{Entry}
use Rattle.items.specs.declared.entry.Entry.TheVariants as entry
use Rattle.items.specs.Entries.{items_of}
use Rattle.guest_log.specs.declared.run.Run.{Run}
use Rattle.guest_log.specs.Runs.{run_count, last_run, IsStored}

-- the entry of a run; a run of no steps is none
abbrev pub run_entry : Run → Option Entry
run_entry run = if run.steps == 0 then None else Some (entry.Steps run.seat run.steps)

-- the entries before the last run, and the last run
abbrev pub entries_of : List Entry → Run → List Entry
entries_of earlier last = earlier ++ option_to_list (run_entry last)

-- what is kept of how a log is stored
pub record Keeps (earlier : List Entry) (before : ℕ) (last : Run) (limit : ℕ) : Type 0 where
  -- the entries are as few as can be
  pub fewest : length (entries_of earlier last) ≡ run_count (items_of (entries_of earlier last))
  -- the last run is all the steps that the items end in
  pub last_is : run_entry last ≡ last_run (items_of (entries_of earlier last))
  -- the count of the items before it
  pub before_is : before ≡ length (items_of earlier)
  pub stored : All IsStored (entries_of earlier last)
  pub within : length (entries_of earlier last) ≤ limit
  pub items_fit : length (items_of (entries_of earlier last)) ≤ 2 ^ 62
