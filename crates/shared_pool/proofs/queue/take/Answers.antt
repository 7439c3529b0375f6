use Rattle.shared_pool.proofs.Balancing.{takes, stands}
use Rattle.shared_pool.proofs.queue.take.Goals as goal

pub pop_as-requires-clause-rule : goal.pop_as-requires-clause-rule
pop_as-requires-clause-rule g c = (takes _ _ c.requires.part, stands _ _ c.requires.part)
