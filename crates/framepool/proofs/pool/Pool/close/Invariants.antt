use Rattle.std.proofs.Common.{vec_len}
use Rattle.framepool.proofs.pool.Pool.close.Given as goal

abbrev pub decreases-loop-no : goal.decreases-loop-no
decreases-loop-no l = vec_len l.free
