use Rattle.guest.proofs.Keeping.{booted_intact}
use Rattle.guest.proofs.laws.a_booted_guest_is_intact.Goals as goal

pub returns : goal.returns
returns c = λ g none cpu devices size pages. booted_intact g none cpu devices size pages
