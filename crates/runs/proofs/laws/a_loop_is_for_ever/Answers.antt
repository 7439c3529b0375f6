use Rattle.runs.proofs.Rounds.{pc_stays, rounds, rounds_and_half}
use Rattle.runs.proofs.laws.a_loop_is_for_ever.Goals as goal

pub returns-clause-even : goal.returns-clause-even
returns-clause-even c = rounds

pub returns-clause-odd : goal.returns-clause-odd
returns-clause-odd c = rounds_and_half

pub returns-clause-pc : goal.returns-clause-pc
returns-clause-pc c = pc_stays
