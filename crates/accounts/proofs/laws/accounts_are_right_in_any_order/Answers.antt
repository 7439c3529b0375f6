use Rattle.accounts.proofs.All.{turned}
use Rattle.accounts.proofs.laws.accounts_are_right_in_any_order.Goals as goal

pub returns : goal.returns
returns c = turned
