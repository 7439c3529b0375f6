use Rattle.std.proofs.Common.{◌≡◌, ◌+◌, ◌%◌, ◌^◌, drop}
use Rattle.items.specs.Entries.{items_of}
use Rattle.dump.specs.Steps.{step_count}
use Rattle.dump.proofs.steps.steps_in.Given as goal

-- the entries that are left have the steps that aren't counted yet
abbrev pub invariant-loop-entry : goal.invariant-loop-entry
invariant-loop-entry l = (l.steps + step_count (items_of (drop l.entry-index l.entry-items))) % 2 ^ 64 ≡ step_count (items_of l.entry-items) % 2 ^ 64
