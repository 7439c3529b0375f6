use Rattle.std.proofs.Common.{take}
use Rattle.taxpolicy.proofs.Leasts.{IsVictim}
use Rattle.taxpolicy.proofs.selection.victim.Given as goal

-- the least guest so far
abbrev pub invariant-loop-i : goal.invariant-loop-i
invariant-loop-i l = IsVictim l.tax.percent (take l.i l.stats) l.least
