use Rattle.std.proofs.Common.{length}
use Rattle.logfile.proofs.Loops.{IsRead}
use Rattle.logfile.proofs.reader.read_entries.Given as goal

abbrev pub invariant-loop-rest : goal.invariant-loop-rest
invariant-loop-rest l = IsRead l.file l.entries.items l.rest

abbrev pub decreases-loop-rest : goal.decreases-loop-rest
decreases-loop-rest l = length l.rest
