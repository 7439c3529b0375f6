use Rattle.items.proofs.Seats.{own-append, own-steps_of, own-steps_of-other}
use Rattle.items.proofs.laws.a_seat_owns_its_items_in_order.Goals as goal

pub returns-clause-order : goal.returns-clause-order
returns-clause-order c = own-append

pub returns-clause-all : goal.returns-clause-all
returns-clause-all c = own-steps_of

pub returns-clause-none : goal.returns-clause-none
returns-clause-none c = own-steps_of-other
