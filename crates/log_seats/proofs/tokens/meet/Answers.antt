use Rattle.std.proofs.Common.{ap, ◌∙◌, arith}
use Rattle.log_seats.proofs.Moves.{leave_seat}
use Rattle.log_seats.proofs.Plays.{look_together}
use Rattle.log_seats.proofs.tokens.meet.Goals as goal

pub load-found-requires : goal.load-found-requires
load-found-requires c = (
  c.join.ensures.table ∙ c.requires.word.1,
  omega arith,
  look_together _ _ _ (ap (λ s. s.present) c.join.ensures.first ∙ c.requires.present.0) (ap (λ s. s.present) c.join.ensures.second ∙ c.requires.present.1),
)

pub split_seat-requires : goal.split_seat-requires
split_seat-requires c =
    let told = c.load-found.ensures in (
      told.0 ∙ c.join.ensures.table ∙ c.requires.word.1,
      omega arith,
      leave_seat _ _ (ap (λ s. s.present) told.2.first ∙ ap (λ s. s.present) c.join.ensures.first ∙ c.requires.present.0) (ap (λ s. s.present) told.2.second ∙ ap (λ s. s.present) c.join.ensures.second ∙ c.requires.present.1),
    )
