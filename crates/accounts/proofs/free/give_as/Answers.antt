use Rattle.accounts.proofs.FreeFrames.{give_settles}
use Rattle.accounts.proofs.free.give_as.Goals as goal

pub settle-requires-clause-right : goal.settle-requires-clause-right
settle-requires-clause-right g c = give_settles c.args.books.now.key _ _ (g.P.Pages.pages c.args.pages.now) c.args.no.now _ c.requires.guest c.requires.new
