use Rattle.std.proofs.Common.{◌≡◌, sum}
use Rattle.taxpolicy.specs.Targets.{residents, reclaimed}
use Rattle.taxpolicy.proofs.allotment.reclaim.Given as goal

-- what is still to be reclaimed leads to the same as what was at first
abbrev pub invariant-loop-left : goal.invariant-loop-left
invariant-loop-left l = record {
  total : l.left ≡ sum (residents l.stats);
  same : reclaimed l.tax.percent l.limit l.left l.stats ≡ reclaimed l.tax.percent l.limit l.resident l.fn.stats;
}

abbrev pub decreases-loop-left : goal.decreases-loop-left
decreases-loop-left l = l.left
