use Rattle.std.proofs.Common.{ap}
use Rattle.slot_contents.proofs.Becoming.{met}
use Rattle.slot_contents.proofs.reading.meet.Goals as goal

pub returns-clause-holds : goal.returns-clause-holds
returns-clause-holds g c =
    (met c.args.contents.now c.args.owner.now c.args.swap.now _ (g.S.SwapStore.held c.args.store.now) c.requires.owner c.requires.swap (ap (λ s. s.parts) c.lend.ensures.to) c.learn.ensures.exact).0

pub returns-clause-once : goal.returns-clause-once
returns-clause-once g c =
    (met c.args.contents.now c.args.owner.now c.args.swap.now _ (g.S.SwapStore.held c.args.store.now) c.requires.owner c.requires.swap (ap (λ s. s.parts) c.lend.ensures.to) c.learn.ensures.exact).1
