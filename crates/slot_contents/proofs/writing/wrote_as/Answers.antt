use Rattle.std.proofs.Common.{ap}
use Rattle.slot_contents.proofs.Becoming.{wrote_settles}
use Rattle.slot_contents.proofs.writing.wrote_as.Goals as goal

pub settle-requires-clause-right : goal.settle-requires-clause-right
settle-requires-clause-right g c =
    wrote_settles c.args.contents.now c.args.owner.now c.args.swap.now _ _ c.args.slot g.B.Bytes.bytes (g.S.SwapStore.held c.args.before.now.value) (g.S.SwapStore.held c.args.store.now) c.args.book.now.free c.requires.owner c.requires.swap
    (ap (λ s. s.parts) c.lend.ensures.to) c.requires.taken c.requires.others c.requires.written c.requires.new
