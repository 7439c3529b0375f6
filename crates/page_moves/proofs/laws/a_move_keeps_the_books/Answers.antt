use Rattle.page_moves.proofs.Booking.{books_after}
use Rattle.page_moves.proofs.laws.a_move_keeps_the_books.Goals as goal

pub returns : goal.returns
returns c = books_after
