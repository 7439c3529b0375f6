use Rattle.std.proofs.Common.{arith}
use Rattle.log_seats.proofs.Moves.{next_seat}
use Rattle.log_seats.proofs.tokens.next_seat.Goals as goal

pub split_seat-requires : goal.split_seat-requires
split_seat-requires c = (c.requires.word.1, omega arith, next_seat _ _ c.requires.present)
