use Rattle.std.proofs.Common.{ap, ◌∙◌, arith}
use Rattle.log_seats.proofs.Plays.{settles}
use Rattle.log_seats.proofs.tokens.settle.Goals as goal

pub load-requires : goal.load-requires
load-requires c = (
  c.lend.ensures.table ∙ c.requires.word.1,
  omega arith,
  settles _ _ _ (ap (λ p. p.present) c.lend.ensures.pen ∙ c.requires.present.0) (ap (λ s. s.present) c.lend.ensures.seat ∙ c.requires.present.1),
)
