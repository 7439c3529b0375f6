use Rattle.std.proofs.Common.{arith}
use Rattle.ledger.proofs.Steps.{settles}
use Rattle.ledger.proofs.tokens.settle.Goals as goal

pub load-requires : goal.load-requires
load-requires g c =
    let one = c.requires.word in
    (c.requires.token, omega arith, settles _ (g.met.R.SoundRule.in_any_order c.args.word.now.key) _ _ _ _ c.requires.right)
