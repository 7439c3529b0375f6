use Rattle.machine.proofs.OtherPages.{step_stays}
use Rattle.machine.proofs.step_laws.other_pages_stay.Goals as goal

pub returns-clause-bytes : goal.returns-clause-bytes
returns-clause-bytes c = λ m page. (step_stays m page).bytes

pub returns-clause-size : goal.returns-clause-size
returns-clause-size c = λ m. (step_stays m 0).size

pub returns-clause-pages : goal.returns-clause-pages
returns-clause-pages c = λ m. (step_stays m 0).pages
