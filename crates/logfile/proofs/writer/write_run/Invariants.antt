use Rattle.std.proofs.Common.{◌≡◌, ◌≤◌, ◌++◌}
use Rattle.logfile.specs.FileItems.{body_bytes}
use Rattle.logfile.specs.Runs.{run_entries}
use Rattle.logfile.proofs.writer.write_run.Given as goal

-- what is written and what is left are the run
abbrev pub invariant-loop-left : goal.invariant-loop-left
invariant-loop-left l = record {
  some : 1 ≤ l.left;
  told : l.file.items ++ body_bytes (run_entries l.seat l.left) ≡ l.fn.file.items ++ body_bytes (run_entries l.seat l.count);
}

abbrev pub decreases-loop-left : goal.decreases-loop-left
decreases-loop-left l = l.left
