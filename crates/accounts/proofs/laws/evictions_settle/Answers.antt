use Rattle.accounts.proofs.Settled.{evict_moved, stays_moved}
use Rattle.accounts.proofs.laws.evictions_settle.Goals as goal

pub returns-clause-evicted : goal.returns-clause-evicted
returns-clause-evicted c = evict_moved

pub returns-clause-stays : goal.returns-clause-stays
returns-clause-stays c = stays_moved
