use Rattle.std.proofs.Common.{ap, ◌∙◌}
use Rattle.slot_contents.proofs.Becoming.{freed_settles, met_less}
use Rattle.slot_contents.proofs.freeing.freed_as.Goals as goal

pub settle-requires-clause-right : goal.settle-requires-clause-right
settle-requires-clause-right g c =
    freed_settles c.args.contents.now c.args.owner.now c.args.swap.now _ _ c.args.slot (g.S.SwapStore.held c.args.store.now) c.args.book.now.free c.requires.owner c.requires.swap
    (ap (λ s. s.parts) (c.learn.ensures.share ∙ c.lend.ensures.to)) c.requires.its_own c.requires.given c.requires.new

pub returns-clause-slots : goal.returns-clause-slots
returns-clause-slots g c =
    met_less c.args.contents.now c.args.owner.now c.args.swap.now _ c.args.slot (g.S.SwapStore.held c.args.store.now) c.requires.owner c.requires.swap (ap (λ s. s.parts) c.lend.ensures.to) c.learn.ensures.exact c.requires.its_own
