use Rattle.std.proofs.Common.{vec_len}
use Rattle.guest_cells.proofs.ending_tests.expect_left.Given as goal

abbrev pub decreases-loop-ended : goal.decreases-loop-ended
decreases-loop-ended g l = vec_len l.guests
