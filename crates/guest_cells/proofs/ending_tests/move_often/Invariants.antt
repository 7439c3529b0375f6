use Rattle.guest_cells.specs.Handles.{AreHandlesOfAll}
use Rattle.guest_cells.proofs.ending_tests.move_often.Given as goal

abbrev pub invariant-loop-k : goal.invariant-loop-k
invariant-loop-k g l = AreHandlesOfAll l.guests.cells.items l.handles.items
