use Rattle.std.proofs.Common.{ap}
use Rattle.accounts.proofs.FreeFrames.{take_settles}
use Rattle.accounts.proofs.free.take_as.Goals as goal

pub settle-requires-clause-right : goal.settle-requires-clause-right
settle-requires-clause-right g c =
    take_settles c.args.books.now.key _ _ _ (g.P.Pages.pages c.args.pages.now) c.args.no.now _ _ c.requires.guest c.requires.frame (ap (λ v. v.parts) c.lend.ensures.to) c.requires.new
