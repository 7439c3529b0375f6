use Rattle.console_queue.proofs.Moving.{puts, learns_ends}
use Rattle.console_queue.proofs.ring.put.Goals as goal

pub push_as-requires-clause-rule : goal.push_as-requires-clause-rule
push_as-requires-clause-rule g c = (puts _ _ _ _ c.requires.role, learns_ends _ _ c.requires.role)
