use Rattle.machine.proofs.Given.{step_follows, taken_page, given_page}
use Rattle.machine.proofs.step_laws.given_pages_change_by_accesses_and_orders.Goals as goal

pub returns-clause-balloon : goal.returns-clause-balloon
returns-clause-balloon c = λ m. step_follows m

pub returns-clause-taken : goal.returns-clause-taken
returns-clause-taken c = λ m page takes. taken_page m page takes

pub returns-clause-given : goal.returns-clause-given
returns-clause-given c = λ m page gives. given_page m page gives
