use Rattle.std.proofs.Common.{◌++◌, take}
use Rattle.fuzz_command.specs.Jobs.{AreAmong, IsReusable, handed_over, known_by}
use Rattle.fuzz_command.specs.Settings.{setting_of}
use Rattle.fuzz_command.proofs.Batches.{ShareSoFar}
use Rattle.fuzz_command.proofs.Handing.{HandSoFar}
use Rattle.fuzz_command.proofs.running.run_share.Given as goal

-- the inputs before this index are run
abbrev pub invariant-loop-index : goal.invariant-loop-index
invariant-loop-index l = record {
  share : ShareSoFar (setting_of l.setting) l.fn.share l.share l.index;
  handed : HandSoFar (setting_of l.setting) (known_by l.fn.used) l.share l.index;
  known : AreAmong (known_by l.machine) (known_by l.fn.used ++ handed_over (take l.index l.share));
  reusable : IsReusable (setting_of l.setting) l.machine;
}
