use Rattle.log_seats.proofs.Plays.{begins}
use Rattle.log_seats.proofs.head.Head.new.Goals as goal

pub of_words-requires : goal.of_words-requires
of_words-requires c = begins
