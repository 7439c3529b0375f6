use Rattle.std.proofs.Common.{[], sym, arith, append-nil}
use Rattle.ledger.specs.Hands.{hand}
use Rattle.ledger.proofs.Steps.{splits}
use Rattle.ledger.proofs.tokens.take_all.Goals as goal

pub split_seat-requires : goal.split_seat-requires
split_seat-requires g c =
    let one = c.requires.word in
    (c.requires.token, omega arith, splits _ (g.met.R.SoundRule.in_any_order c.args.word.now.key) _ _ (hand []) _ (sym (append-nil _)))
