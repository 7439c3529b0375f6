use Rattle.std.proofs.Common.{length}
use Rattle.guest_cells.proofs.audit.+books_with.Given as goal

-- the guests whose locks are still to be taken
abbrev pub decreases-books_with : goal.decreases-books_with
decreases-books_with g l = length l.cells.now
