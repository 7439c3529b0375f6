use Rattle.std.proofs.Common.{take}
use Rattle.logfile.specs.Versions.{StandsForAs}
use Rattle.logfile.specs.Runs.{file_entries}
use Rattle.logfile.proofs.versions.write_as.Given as goal

-- the file so far stands for the entries so far
abbrev pub invariant-loop-entry : goal.invariant-loop-entry
invariant-loop-entry l = StandsForAs l.file.items l.fn.profile l.pages l.digest (file_entries (take l.entry-index l.entries))
