use Rattle.tenant.proofs.Moving.{was_free, evicted_conserves}
use Rattle.tenant.proofs.moves.evict_page.Goals as goal

pub evict_in-requires-clause-slot : goal.evict_in-requires-clause-slot
evict_in-requires-clause-slot g c = c.requires.lent.slot_inside c.in-Some.slot (was_free c.args.slots.now.free c.take.new.self.free c.in-Some.slot c.in-Some.ensures.taken)

pub returns-in-Ok-clause-conserves : goal.returns-in-Ok-clause-conserves
returns-in-Ok-clause-conserves g c =
    let old = c.args.shares.now.entries in
    let new = c.evict_in.new.shares.entries in
    evicted_conserves (g.P.Pages.pages c.args.pages.now) (g.P.Pages.pages c.evict_in.new.pages) c.args.pool.now c.frame_back.new.pool c.args.slots.now c.take.new.self old new c.in-Some.slot
    (c.frame_back.ensures (g.P.Pages.pages c.args.pages.now) (g.P.Pages.pages c.evict_in.new.pages) c.args.pool.now old new (c.in-Ok.ensures.frames c.args.pool.now))
    (record { numbers = c.in-Some.ensures.taken; out = c.in-Some.ensures.out }) (c.in-Ok.ensures.used c.take.new.self) c.evict_in.ensures.tickets

pub returns-in-Ok-clause-kept : goal.returns-in-Ok-clause-kept
returns-in-Ok-clause-kept g c = λ view k.
    c.evict_in.ensures.kept view (c.requires.lent.slot_apart c.in-Some.slot (was_free c.args.slots.now.free c.take.new.self.free c.in-Some.slot c.in-Some.ensures.taken)) k

pub returns-in-Err-clause-kept : goal.returns-in-Err-clause-kept
returns-in-Err-clause-kept g c = λ view k.
    c.evict_in.ensures.kept view (c.requires.lent.slot_apart c.in-Some.slot (was_free c.args.slots.now.free c.take.new.self.free c.in-Some.slot c.in-Some.ensures.taken)) k
