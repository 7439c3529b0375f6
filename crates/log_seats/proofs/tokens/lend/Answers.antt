use Rattle.std.proofs.Common.{ap, ◌∙◌, arith}
use Rattle.log_seats.proofs.Moves.{leave, come_beside_pen}
use Rattle.log_seats.proofs.tokens.lend.Goals as goal

pub split_seat-leaving-requires : goal.split_seat-leaving-requires
split_seat-leaving-requires c = (c.requires.word.2, omega arith, leave _ _ c.requires.present.1)

pub join_seat-requires : goal.join_seat-requires
join_seat-requires c =
    let e = c.split_seat-leaving.ensures in
    let there = ap (λ m. m.0.first.present) e.4 ∙ c.requires.present.1 in
    (c.requires.word.1, e.3 ∙ c.requires.word.2, ap (λ m. m.1) e.4, omega arith, come_beside_pen _ _ _ _ there)
