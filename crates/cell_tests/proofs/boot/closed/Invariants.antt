use Rattle.std.proofs.Common.{vec_len}
use Rattle.cell_tests.proofs.boot.closed.Given as goal

abbrev pub decreases-loop-map : goal.decreases-loop-map
decreases-loop-map l = vec_len l.maps
