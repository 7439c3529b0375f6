use Rattle.machine.proofs.Agreeing.{step_alike}
use Rattle.machine.proofs.step_laws.agreeing_boards_step_alike.Goals as goal

pub returns-clause-accesses : goal.returns-clause-accesses
returns-clause-accesses c = λ these cpu a b agree within. (step_alike these cpu a b agree within).accesses

pub returns-clause-cpu : goal.returns-clause-cpu
returns-clause-cpu c = λ these cpu a b agree within. (step_alike these cpu a b agree within).cpu

pub returns-clause-board : goal.returns-clause-board
returns-clause-board c = λ these cpu a b agree within. (step_alike these cpu a b agree within).board
