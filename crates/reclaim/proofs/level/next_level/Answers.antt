use Rattle.std.proofs.Common.{sym, ◌∙◌, suc, arith}
use Rattle.reclaim.proofs.Moving.{one_less, same_next, settled_next, chain_more}
use Rattle.reclaim.proofs.level.next_level.Goals as goal

pub loop-next-preserved : goal.loop-next-preserved
loop-next-preserved c =
    let before = c.loop-next.invariant in
    let move = c.in-Some.ensures in
    let less = one_less c.args.free c.args.total c.loop-next.level c.in-Some.next move in
    (suc before.0, chain_more c.args.free c.args.total before.0 c.args.level c.loop-next.level c.in-Some.next before.1 move, omega (arith, before.2, less), same_next c.args.free c.args.total c.loop-next.level c.in-Some.next move ∙ before.3)

pub returns-clause-value : goal.returns-clause-value
returns-clause-value c = sym (settled_next c.args.free c.args.total c.loop-next.level c.in_default.ensures) ∙ c.loop-next.invariant.3
