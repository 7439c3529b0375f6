use Rattle.slot_contents.proofs.Becoming.{read_settles}
use Rattle.slot_contents.proofs.reading.read_as.Goals as goal

pub settle-requires-clause-right : goal.settle-requires-clause-right
settle-requires-clause-right g c =
    read_settles c.args.contents.now c.args.swap.now _ (g.S.SwapStore.held c.args.before.now.value) (g.S.SwapStore.held c.args.store.now) c.requires.swap c.requires.all c.requires.new
