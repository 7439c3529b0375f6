use Rattle.std.proofs.Common.{rules}
use Rattle.console_queue.proofs.Moving.{begins, forks}
use Rattle.console_queue.proofs.ring.new.Goals as goal

pub ruled-requires-clause-rule : goal.ruled-requires-clause-rule
ruled-requires-clause-rule c = begins

pub another-taker-requires-clause-rule : goal.another-taker-requires-clause-rule
another-taker-requires-clause-rule c = forks _ _ (search rules) (search rules)
