use Rattle.std.proofs.Common.{length}
use Rattle.guest_cells.proofs.ending_tests.+move_all.Given as goal

abbrev pub decreases-move_all : goal.decreases-move_all
decreases-move_all g l = length l.cells.now
