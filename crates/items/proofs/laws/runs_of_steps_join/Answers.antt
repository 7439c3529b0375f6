use Rattle.items.proofs.Runs.{steps_of-none, steps_of-one, steps_of-join, length-steps_of}
use Rattle.items.proofs.laws.runs_of_steps_join.Goals as goal

pub returns-clause-none : goal.returns-clause-none
returns-clause-none c = steps_of-none

pub returns-clause-one : goal.returns-clause-one
returns-clause-one c = steps_of-one

pub returns-clause-join : goal.returns-clause-join
returns-clause-join c = steps_of-join

pub returns-clause-many : goal.returns-clause-many
returns-clause-many c = length-steps_of
