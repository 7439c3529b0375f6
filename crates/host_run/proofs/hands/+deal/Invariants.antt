use Rattle.std.proofs.Common.{vec_len}
use Rattle.host_run.proofs.hands.+deal.Given as goal

-- what is not dealt yet
abbrev pub decreases-deal : goal.decreases-deal
decreases-deal l = vec_len l.handles.now
