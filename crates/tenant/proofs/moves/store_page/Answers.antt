use Rattle.tenant.proofs.Moving.{was_free, stored_conserves}
use Rattle.tenant.proofs.moves.store_page.Goals as goal

pub store_first-requires-clause-slot : goal.store_first-requires-clause-slot
store_first-requires-clause-slot g c = c.requires.inside c.in-Some.slot (was_free c.args.slots.now.free c.take.new.self.free c.in-Some.slot c.in-Some.ensures.taken)

pub returns-in-Ok-clause-conserves : goal.returns-in-Ok-clause-conserves
returns-in-Ok-clause-conserves g c = λ pool es.
    stored_conserves (g.P.Pages.pages c.args.pages.now) (g.P.Pages.pages c.store_first.new.pages) pool c.args.slots.now c.take.new.self es c.in-Some.slot
    (c.store_first.ensures.frames pool es) (record { numbers = c.in-Some.ensures.taken; out = c.in-Some.ensures.out }) (c.in-Ok.ensures.used c.take.new.self) (c.store_first.ensures.tickets es)
