use Rattle.slot_contents.proofs.Becoming.{first_settles}
use Rattle.slot_contents.proofs.dealing.settle_first_as.Goals as goal

pub settle-requires-clause-right : goal.settle-requires-clause-right
settle-requires-clause-right g c =
    first_settles c.args.contents.now c.args.share.now _ (g.S.SwapStore.held c.args.store.now) c.args.book.now.free g.O.Owners.slots c.requires.share c.requires.apart c.requires.new
