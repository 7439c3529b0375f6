use Rattle.std.proofs.Common.{ap}
use Rattle.accounts.proofs.Becoming.{table_settles}
use Rattle.accounts.proofs.guest_and_table.settle_table_as.Goals as goal

pub settle-requires-clause-right : goal.settle-requires-clause-right
settle-requires-clause-right g c =
    table_settles c.args.books.now.key _ _ _ _ _ _ _ _ c.requires.moved (ap (λ v. v.parts) c.lend.ensures.to) c.requires.new
