use Rattle.accounts.proofs.All.{first_settles}
use Rattle.accounts.proofs.dealing.settle_first_as.Goals as goal

pub settle-requires-clause-right : goal.settle-requires-clause-right
settle-requires-clause-right g c =
    first_settles c.args.books.now.key g.P.Pages.pages c.args.guests.now _ _ _ _ _ _ c.requires.share c.requires.new c.requires.all c.requires.exact
