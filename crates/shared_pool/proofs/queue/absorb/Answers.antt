use Rattle.shared_pool.proofs.Balancing.{merges}
use Rattle.shared_pool.proofs.queue.absorb.Goals as goal

pub absorb-requires-clause-rule : goal.absorb-requires-clause-rule
absorb-requires-clause-rule c = merges _ _ _ _ c.requires.part
