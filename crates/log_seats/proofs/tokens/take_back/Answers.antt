use Rattle.std.proofs.Common.{arith}
use Rattle.log_seats.proofs.Moves.{leave_pen}
use Rattle.log_seats.proofs.tokens.take_back.Goals as goal

pub split_seat-requires : goal.split_seat-requires
split_seat-requires c = (c.requires.word.1, omega arith, leave_pen _ _ c.requires.present.1)
