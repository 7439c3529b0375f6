use Rattle.shared_pool.proofs.Balancing.{founds}
use Rattle.shared_pool.proofs.queue.found.Goals as goal

pub another-requires-clause-rule : goal.another-requires-clause-rule
another-requires-clause-rule g c = founds _ _ _ _ c.requires.first
