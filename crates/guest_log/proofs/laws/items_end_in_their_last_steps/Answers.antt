use Rattle.guest_log.proofs.Endings.{last_run-steps_of, run_stops, last_run-none}
use Rattle.guest_log.proofs.laws.items_end_in_their_last_steps.Goals as goal

pub returns-clause-steps : goal.returns-clause-steps
returns-clause-steps c = last_run-steps_of

pub returns-clause-other : goal.returns-clause-other
returns-clause-other c = run_stops

pub returns-clause-none : goal.returns-clause-none
returns-clause-none c = last_run-none
