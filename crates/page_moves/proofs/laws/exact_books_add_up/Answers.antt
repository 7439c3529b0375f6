use Rattle.page_moves.proofs.Totals.{frames_add_up, pool_out_adds_up, slots_add_up, slots_out_add_up, tickets_add_up}
use Rattle.page_moves.proofs.laws.exact_books_add_up.Goals as goal

pub returns-clause-frames : goal.returns-clause-frames
returns-clause-frames c = frames_add_up

pub returns-clause-pool_out : goal.returns-clause-pool_out
returns-clause-pool_out c = pool_out_adds_up

pub returns-clause-slots : goal.returns-clause-slots
returns-clause-slots c = slots_add_up

pub returns-clause-slots_out : goal.returns-clause-slots_out
returns-clause-slots_out c = slots_out_add_up

pub returns-clause-tickets : goal.returns-clause-tickets
returns-clause-tickets c = tickets_add_up
