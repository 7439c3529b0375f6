use Rattle.slot_contents.proofs.Becoming.{failed_settles}
use Rattle.slot_contents.proofs.writing.failed_as.Goals as goal

pub settle-requires-clause-right : goal.settle-requires-clause-right
settle-requires-clause-right g c =
    failed_settles c.args.contents.now c.args.swap.now _ c.args.slot (g.S.SwapStore.held c.args.before.now.value) (g.S.SwapStore.held c.args.store.now) c.args.book.now.free c.requires.swap c.requires.is_free c.requires.free c.requires.others c.requires.new
