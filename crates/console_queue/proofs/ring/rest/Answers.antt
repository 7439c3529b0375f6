use Rattle.std.proofs.Common.{ap}
use Rattle.console_queue.proofs.Moving.{merges}
use Rattle.console_queue.proofs.ring.rest.Goals as goal

pub absorb-requires-clause-rule : goal.absorb-requires-clause-rule
absorb-requires-clause-rule g c = merges _ _ _ _ (ap (λ v. v.puts) c.requires.feed) (ap (λ v. v.takes) c.requires.taker)
