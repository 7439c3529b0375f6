use Rattle.std.proofs.Common.{◌≡◌, ◌≤◌, drop, length}
use Rattle.reset_machine.proofs.Covering.{AreAmong}
use Rattle.reset_machine.proofs.cover.unmark.Given as goal

-- the words that are marked are among those of the list from here on
abbrev pub invariant-loop-index : goal.invariant-loop-index
invariant-loop-index l = record {
  few : l.index ≤ length l.list;
  size : length l.marked ≡ length l.initial.marked;
  among : AreAmong l.marked (drop l.index l.list);
}
