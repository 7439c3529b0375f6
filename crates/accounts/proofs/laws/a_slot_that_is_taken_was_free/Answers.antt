use Rattle.accounts.proofs.Settled.{taken_was_free}
use Rattle.accounts.proofs.laws.a_slot_that_is_taken_was_free.Goals as goal

pub returns : goal.returns
returns c = taken_was_free
