use Rattle.fuzz_command.specs.Jobs.{IsReusable}
use Rattle.fuzz_command.specs.Settings.{setting_of}
use Rattle.fuzz_command.proofs.Trials.{SoFar}
use Rattle.fuzz_command.proofs.lines.fuzz_lines.Given as goal

-- the lines before this number are run
abbrev pub invariant-loop : goal.invariant-loop
invariant-loop g l = record {
  run : SoFar (setting_of l.setting) l.number (g.B.Read.remaining l.fn.input) (g.B.Read.remaining l.input) (g.O.Write.contents l.fn.out) (g.O.Write.contents l.out) l.stopped;
  reusable : IsReusable (setting_of l.setting) l.machine;
}
