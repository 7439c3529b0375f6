use Rattle.accounts.proofs.Telling.{guest_tells}
use Rattle.accounts.proofs.guest.meet.Goals as goal

pub returns-clause-exact : goal.returns-clause-exact
returns-clause-exact c ps ns is = guest_tells c.args.books.now.key c.args.books.now.id _ ps ns is c.learn.ensures.exact
