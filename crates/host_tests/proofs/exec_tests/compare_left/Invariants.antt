use Rattle.std.proofs.Common.{vec_len}
use Rattle.host_tests.proofs.exec_tests.compare_left.Given as goal

abbrev pub decreases-loop-one : goal.decreases-loop-one
decreases-loop-one g l = vec_len l.ended
