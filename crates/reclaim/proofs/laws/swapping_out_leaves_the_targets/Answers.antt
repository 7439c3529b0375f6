use Rattle.std.proofs.Common.{sym, subst}
use Rattle.taxpolicy.specs.Targets.{targets_of, AreLow}
use Rattle.reclaim.proofs.Swapping.{left_all}
use Rattle.reclaim.proofs.laws.swapping_out_leaves_the_targets.Goals as goal

pub returns-clause-left : goal.returns-clause-left
returns-clause-left c = λ level tax total stats below swaps. left_all level stats (targets_of tax total stats) swaps (c.targets_fill_the_frames.ensures.each tax total stats below)

pub returns-clause-low : goal.returns-clause-low
returns-clause-low c = λ level tax total stats below swaps.
    let each = c.targets_fill_the_frames.ensures.each tax total stats below in
    subst (AreLow total stats) (sym (left_all level stats (targets_of tax total stats) swaps each)) (c.targets_fill_the_frames.ensures.ended tax total stats below)
