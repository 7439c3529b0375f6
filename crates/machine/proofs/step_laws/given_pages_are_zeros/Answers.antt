use Rattle.machine.proofs.OtherPages.{zeros_stay}
use Rattle.machine.proofs.step_laws.given_pages_are_zeros.Goals as goal

pub returns : goal.returns
returns c = λ m given. zeros_stay m given
