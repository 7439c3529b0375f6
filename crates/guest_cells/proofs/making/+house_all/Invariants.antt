use Rattle.std.proofs.Common.{vec_len}
use Rattle.guest_cells.proofs.making.+house_all.Given as goal

-- the guests that wait
abbrev pub decreases-house_all : goal.decreases-house_all
decreases-house_all g l = vec_len l.waiting.now.guests
