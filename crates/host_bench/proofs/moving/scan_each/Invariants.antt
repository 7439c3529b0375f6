use Rattle.std.proofs.Common.{◌≤◌}
use Rattle.host_bench.proofs.moving.scan_each.Given as goal

abbrev pub invariant-loop-round : goal.invariant-loop-round
invariant-loop-round g l = l.noted ≤ l.round
