use Rattle.shared_pool.proofs.Balancing.{stands}
use Rattle.shared_pool.proofs.queue.len.Goals as goal

pub len_as-requires-clause-rule : goal.len_as-requires-clause-rule
len_as-requires-clause-rule g c = stands _ _ c.requires.part
