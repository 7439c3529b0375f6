use Rattle.reset_machine.proofs.Watching.{store_watched}
use Rattle.reset_machine.proofs.bus.WatchedBusPhysBus.store.Goals as goal

pub invariant_of-self : goal.invariant_of-self
invariant_of-self c =
    let b = c.self.inside in
    store_watched c.args.size c.args.value c.args.at b.flat b.marks.marked c.mark_stored.new.marks.marked b.home.value.board.memory c.store.new.self c.store.ensures.board
    c.requires.aligned c.self.invariant c.mark_stored.ensures.grows c.mark_stored.ensures.stored c.mark_stored.ensures.given
