use Rattle.taxpolicy.proofs.Existence.{victim_of_least}
use Rattle.taxpolicy.proofs.Victims.{least_unique}
use Rattle.taxpolicy.proofs.laws.victim_has_the_least_ratio.Goals as goal

pub returns-clause-least : goal.returns-clause-least
returns-clause-least c = λ tax stats g below. victim_of_least tax stats g below

pub returns-clause-one : goal.returns-clause-one
returns-clause-one c = least_unique
