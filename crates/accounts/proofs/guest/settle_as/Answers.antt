use Rattle.accounts.proofs.Becoming.{guest_settles}
use Rattle.accounts.proofs.guest.settle_as.Goals as goal

pub settle-requires-clause-right : goal.settle-requires-clause-right
settle-requires-clause-right g c = guest_settles c.args.books.now.key _ _ _ _ _ c.requires.moved c.requires.new
