use Rattle.page_moves.proofs.Booking.{slot_inside}
use Rattle.page_moves.proofs.laws.books_tell_of_each_page.Goals as goal

pub returns-clause-slot : goal.returns-clause-slot
returns-clause-slot c = slot_inside
