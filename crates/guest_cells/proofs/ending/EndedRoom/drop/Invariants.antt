use Rattle.std.proofs.Common.{vec_len}
use Rattle.guest_cells.proofs.ending.EndedRoom.drop.Given as goal

abbrev pub decreases-loop-ended : goal.decreases-loop-ended
decreases-loop-ended l = vec_len l.list
