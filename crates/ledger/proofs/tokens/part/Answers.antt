use Rattle.std.proofs.Common.{take, drop, arith}
use Rattle.ledger.specs.Hands.{hand}
use Rattle.ledger.proofs.Steps.{splits, first_others}
use Rattle.ledger.proofs.tokens.part.Goals as goal

pub split_seat-requires : goal.split_seat-requires
split_seat-requires g c =
    let one = c.requires.word in
    let parts = c.before.args.from.now.me.0.parts in
    (c.requires.token, omega arith, splits _ (g.met.R.SoundRule.in_any_order c.args.word.now.key) _ _ (hand (drop 1 parts)) (hand (take 1 parts)) (first_others _))
