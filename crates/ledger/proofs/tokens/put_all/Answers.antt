use Rattle.std.proofs.Common.{arith}
use Rattle.ledger.proofs.Steps.{joins}
use Rattle.ledger.proofs.tokens.put_all.Goals as goal

pub join_seat-requires : goal.join_seat-requires
join_seat-requires g c =
    let one = c.requires.word in
    (c.requires.tokens.0, c.requires.tokens.1, c.requires.tokens.2, omega arith, joins _ (g.met.R.SoundRule.in_any_order c.args.word.now.key) _ _ _ _)
