use Rattle.std.proofs.Common.{arith}
use Rattle.log_seats.proofs.Plays.{looks}
use Rattle.log_seats.proofs.tokens.look.Goals as goal

pub load-requires : goal.load-requires
load-requires c = (c.requires.word.1, omega arith, looks _ _ _ c.requires.present)
