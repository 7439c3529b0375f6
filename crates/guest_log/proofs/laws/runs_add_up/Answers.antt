use Rattle.std.proofs.Common.{None}
use Rattle.guest_log.proofs.Counting.{run_count-append, run_count-steps_of, runs_after-le-length}
use Rattle.guest_log.proofs.laws.runs_add_up.Goals as goal

pub returns-clause-join : goal.returns-clause-join
returns-clause-join c = run_count-append

pub returns-clause-steps : goal.returns-clause-steps
returns-clause-steps c = run_count-steps_of

pub returns-clause-few : goal.returns-clause-few
returns-clause-few c = runs_after-le-length None
