use Rattle.world.proofs.All.{guest_inside, input_sound}
use Rattle.world.proofs.world.World.turn_guest.Goals as goal

pub invariant_of-self : goal.invariant_of-self
invariant_of-self g c =
    input_sound c.self.invariant c.args.g c.index_mut.result.now c.turn.new.self (guest_inside c.self.view_is c.requires) c.index_mut.ensures.value c.turn.ensures.outline
    (λ k. c.turn.ensures.kept (g.S.SwapStore.held c.self.inside.store) k)
