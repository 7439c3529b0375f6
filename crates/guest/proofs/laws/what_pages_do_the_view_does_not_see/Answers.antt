use Rattle.guest.proofs.Keeping.{still_intact}
use Rattle.guest.proofs.laws.what_pages_do_the_view_does_not_see.Goals as goal

pub returns-clause-intact : goal.returns-clause-intact
returns-clause-intact c = λ g g' rest count intact pages. still_intact g g' rest count intact pages
