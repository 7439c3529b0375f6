use Rattle.std.proofs.Common.{◌+◌, ◌-◌, [], ◌∷◌}
use Rattle.ledger.proofs.tests.pay.Given as goal

abbrev pub ghosts-pay_as : goal.ghosts-pay_as
ghosts-pay_as a = record { parts = (a.from.now.coins - a.amount) ∷ (a.to.now.coins + a.amount) ∷ [] }
