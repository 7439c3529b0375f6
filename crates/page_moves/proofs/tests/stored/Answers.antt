use Rattle.page_moves.proofs.OneOwner.{one_kept}
use Rattle.page_moves.proofs.tests.stored.Goals as goal

pub returns-in-Ok : goal.returns-in-Ok
returns-in-Ok g c =
    let old = c.args.parts.now in
    let new = c.store_first.new in
    one_kept 3 2 old.map new.pages old.shares.entries old.shares.entries old.pool old.slots c.take.new.self c.in-Some.slot
    (c.store_first.ensures.frames old.pool old.shares.entries)
    (record { numbers = c.in-Some.ensures.taken; out = c.in-Some.ensures.out })
    (c.in-Ok.ensures.used c.take.new.self) (c.store_first.ensures.tickets old.shares.entries) (c.store_first.ensures.reads old.shares.entries) c.requires
