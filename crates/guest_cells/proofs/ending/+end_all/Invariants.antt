use Rattle.std.proofs.Common.{vec_len}
use Rattle.guest_cells.proofs.ending.+end_all.Given as goal

-- the guests that are still behind their locks
abbrev pub decreases-end_all : goal.decreases-end_all
decreases-end_all g l = vec_len l.cells.now
