use Rattle.seated.proofs.Slicing.{joined}
use Rattle.seated.proofs.laws.slices_join.Goals as goal

pub returns-clause-join : goal.returns-clause-join
returns-clause-join c = joined
