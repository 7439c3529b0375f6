use Rattle.std.proofs.Common.{All}
use Rattle.fuzz_command.specs.Jobs.{HasRun}
use Rattle.fuzz_command.specs.Settings.{Setting}
use Rattle.fuzz_command.proofs.Batches.{JobsSoFar}
use Rattle.fuzz_command.proofs.writing.write_jobs.Given as goal

-- the lines of the inputs before this index are written
abbrev pub invariant-loop-job : goal.invariant-loop-job
invariant-loop-job g l = (s : Setting) → All (HasRun s) l.jobs → JobsSoFar s l.jobs l.job-index (g.O.Write.contents l.fn.out) (g.O.Write.contents l.out) l.stopped
