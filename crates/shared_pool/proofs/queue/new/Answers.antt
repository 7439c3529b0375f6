use Rattle.shared_pool.proofs.Balancing.{begins}
use Rattle.shared_pool.proofs.queue.new.Goals as goal

pub ruled-requires-clause-rule : goal.ruled-requires-clause-rule
ruled-requires-clause-rule c = begins
