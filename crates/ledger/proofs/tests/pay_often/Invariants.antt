use Rattle.std.proofs.Common.{◌≡◌}
use Rattle.ledger.specs.Coins.{coins_in}
use Rattle.ledger.proofs.tests.pay_often.Given as goal

abbrev pub invariant-loop : goal.invariant-loop
invariant-loop l =
    (l.one.share ≡ coins_in l.coins.id l.one.coins) × (l.two.share ≡ coins_in l.coins.id l.two.coins) × (l.one.coins ≡ l.initial.one.coins) × (l.two.coins ≡ l.initial.two.coins)
