use Rattle.std.proofs.Common.{vec_len}
use Rattle.guest_cells.proofs.boot.close_all.Given as goal

abbrev pub decreases-loop-guest : goal.decreases-loop-guest
decreases-loop-guest g l = vec_len l.guests
