use Rattle.std.proofs.Common.{◌≡◌, ◌+◌, ◌%◌, ◌^◌, drop}
use Rattle.items.specs.Entries.{items_of}
use Rattle.dump.specs.Steps.{step_count}
use Rattle.commands.proofs.Replaying.{Left}
use Rattle.commands.proofs.replay.replay_entries.Given as goal

-- the entries that are left lead where all of them lead from the start, and have the steps that aren't counted yet
abbrev pub invariant-loop-entry : goal.invariant-loop-entry
invariant-loop-entry l = record {
  left : Left l.entries (drop l.entry-index l.entries) l.fn.flat l.flat;
  count : (l.steps + step_count (items_of (drop l.entry-index l.entries))) % 2 ^ 64 ≡ step_count (items_of l.entries) % 2 ^ 64;
}
