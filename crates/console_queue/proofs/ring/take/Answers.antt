use Rattle.console_queue.proofs.Moving.{takes}
use Rattle.console_queue.proofs.ring.take.Goals as goal

pub pop_as-requires-clause-rule : goal.pop_as-requires-clause-rule
pop_as-requires-clause-rule g c = (takes _ _ c.requires.role, λ _ _ _ _. tt)
