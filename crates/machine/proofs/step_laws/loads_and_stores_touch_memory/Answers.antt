use Rattle.machine.proofs.Operations.{touches_by_operation}
use Rattle.machine.proofs.step_laws.loads_and_stores_touch_memory.Goals as goal

pub returns : goal.returns
returns c = λ i. touches_by_operation i
