use Rattle.accounts.proofs.All.{frames_add_up, slots_add_up, tickets_add_up}
use Rattle.accounts.proofs.laws.the_numbers_of_all_owners_add_up.Goals as goal

pub returns-clause-frames : goal.returns-clause-frames
returns-clause-frames c = frames_add_up

pub returns-clause-slots : goal.returns-clause-slots
returns-clause-slots c = slots_add_up

pub returns-clause-tickets : goal.returns-clause-tickets
returns-clause-tickets c = tickets_add_up
