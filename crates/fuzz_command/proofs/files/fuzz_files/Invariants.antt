use Rattle.std.proofs.Common.{◌-◌, ◌≤◌, length}
use Rattle.fuzz_command.specs.Jobs.{IsReusable}
use Rattle.fuzz_command.specs.Settings.{setting_of}
use Rattle.fuzz_command.proofs.Trials.{FilesSoFar}
use Rattle.fuzz_command.proofs.files.fuzz_files.Given as goal

-- the files before this index are run
abbrev pub invariant-loop-first : goal.invariant-loop-first
invariant-loop-first g l = record {
  inside : l.first ≤ length l.files;
  run : FilesSoFar (setting_of l.setting) l.files l.first (g.O.Write.contents l.fn.out) (g.O.Write.contents l.out) l.stopped;
  reusable : IsReusable (setting_of l.setting) l.machine;
}

abbrev pub decreases-loop-first : goal.decreases-loop-first
decreases-loop-first g l = length l.initial.files - l.first
