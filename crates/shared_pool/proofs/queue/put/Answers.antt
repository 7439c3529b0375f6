use Rattle.std.proofs.Common.{ap, ◌∙◌}
use Rattle.shared_pool.proofs.Balancing.{puts}
use Rattle.shared_pool.proofs.queue.put.Goals as goal

pub push_as-requires-clause-rule : goal.push_as-requires-clause-rule
push_as-requires-clause-rule g c = (puts _ _ _ _ c.requires.part (ap (λ x. x.ledger) c.new.ensures ∙ ap (λ s. s.ledger) c.requires.share), λ _ _ _ _. tt)
