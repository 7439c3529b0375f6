use Rattle.shared_pool.proofs.Balancing.{forks}
use Rattle.shared_pool.proofs.queue.another.Goals as goal

pub another-requires-clause-rule : goal.another-requires-clause-rule
another-requires-clause-rule c = forks _ _ c.requires.parts
