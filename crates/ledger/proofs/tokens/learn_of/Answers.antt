use Rattle.std.proofs.Common.{arith}
use Rattle.ledger.proofs.Steps.{learns}
use Rattle.ledger.proofs.tokens.learn_of.Goals as goal

pub load-requires : goal.load-requires
load-requires g c =
    let one = c.requires.word in
    (c.requires.token, omega arith, learns _ (g.met.R.SoundRule.in_any_order c.args.word.now.key) g.A.Says.says _ _ _ c.requires.says)
