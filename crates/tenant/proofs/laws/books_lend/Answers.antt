use Rattle.tenant.proofs.Lending.{lent}
use Rattle.tenant.proofs.laws.books_lend.Goals as goal

pub returns : goal.returns
returns c = lent
