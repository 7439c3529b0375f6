use Rattle.std.proofs.Common.{vec_len}
use Rattle.host_run.proofs.hands.+gather.Given as goal

-- the guests of which nothing is joined yet
abbrev pub decreases-gather : goal.decreases-gather
decreases-gather l = vec_len l.runners.now
