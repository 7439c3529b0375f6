use Rattle.std.proofs.Common.{arith}
use Rattle.log_seats.proofs.Plays.{publishes}
use Rattle.log_seats.proofs.tokens.publish.Goals as goal

pub store-requires : goal.store-requires
store-requires c = (c.requires.word.1, omega arith, publishes _ _ _ _ c.requires.present c.requires.count)
