use Rattle.machine.proofs.Lacking.{lack_alike}
use Rattle.machine.proofs.step_laws.agreeing_boards_lack_alike.Goals as goal

pub returns : goal.returns
returns c = λ these lacks cpu a b agree covers. lack_alike these lacks cpu a b agree covers
