use Rattle.log_seats.proofs.Seats.{legal_own, legal_others}
use Rattle.log_seats.proofs.laws.a_legal_seat_stays_legal.Goals as goal

pub returns-clause-own : goal.returns-clause-own
returns-clause-own c = legal_own

pub returns-clause-others : goal.returns-clause-others
returns-clause-others c = legal_others
