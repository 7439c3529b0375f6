use Rattle.accounts.proofs.Settled.{first_moved, copy_moved, swapped_moved}
use Rattle.accounts.proofs.laws.supplies_settle.Goals as goal

pub returns-clause-first : goal.returns-clause-first
returns-clause-first c = first_moved

pub returns-clause-copy : goal.returns-clause-copy
returns-clause-copy c = copy_moved

pub returns-clause-swapped : goal.returns-clause-swapped
returns-clause-swapped c = swapped_moved
