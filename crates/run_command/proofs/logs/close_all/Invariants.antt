use Rattle.std.proofs.Common.{vec_len}
use Rattle.run_command.proofs.logs.close_all.Given as goal

abbrev pub decreases-loop-one : goal.decreases-loop-one
decreases-loop-one l = vec_len l.ended
