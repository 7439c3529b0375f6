use Rattle.accounts.proofs.All.{all_owners}
use Rattle.accounts.proofs.laws.all_owners_are_exact_books.Goals as goal

pub returns : goal.returns
returns c = all_owners
