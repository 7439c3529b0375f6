use Rattle.reclaim.proofs.Settling.{few_moves, one_level, one_move, leads_there, next_stays}
use Rattle.reclaim.proofs.laws.moves_lead_to_one_level.Goals as goal

pub returns-clause-leads : goal.returns-clause-leads
returns-clause-leads c = leads_there

pub returns-clause-one : goal.returns-clause-one
returns-clause-one c = one_level

pub returns-clause-few : goal.returns-clause-few
returns-clause-few c = few_moves

pub returns-clause-one_move : goal.returns-clause-one_move
returns-clause-one_move c = one_move

pub returns-clause-again : goal.returns-clause-again
returns-clause-again c = next_stays
