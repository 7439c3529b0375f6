use Rattle.logfile.proofs.Bodies.{same_entries, beginning}
use Rattle.logfile.proofs.laws.items_are_read_in_one_way.Goals as goal

pub returns-clause-one : goal.returns-clause-one
returns-clause-one c = same_entries

pub returns-clause-first : goal.returns-clause-first
returns-clause-first c = λ xs ys rest p q h. (beginning xs ys rest p q h).first
