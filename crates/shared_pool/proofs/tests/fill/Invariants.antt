use Rattle.std.proofs.Common.{◌≡◌, length, map}
use Rattle.accounts.specs.declared.account.Account.TheVariants.{Frame}
use Rattle.shared_pool.proofs.tests.fill.Given as goal

abbrev pub invariant-loop-no : goal.invariant-loop-no
invariant-loop-no g l =
    (l.pass.pool ≡ l.pool.id) × (l.pass.pool ≡ l.fn.pass.pool) × (l.pass.hand.of ≡ l.books.id) × (l.pass.hand.parts ≡ l.fn.pass.hand.parts) × (l.accounts ≡ record { ledger = l.books.id; parts = map Frame l.numbers })

abbrev pub decreases-loop-no : goal.decreases-loop-no
decreases-loop-no g l = length l.numbers
