use Rattle.std.proofs.Common.{ℕ}
use Rattle.page_moves.proofs.OneOwner.{one_after}
use Rattle.page_moves.proofs.tests.first.Goals as goal

pub returns : goal.returns
returns g c =
    let old = c.args.parts.now in
    one_after 3 2 old.map c.supply_first.new.pages old.shares.entries old.shares.entries old.pool c.take.new.self old.slots old.slots
    (c.in-Ok.ensures.conserves old.pool c.take.new.self old.slots old.shares.entries (record { numbers = c.in-Some.ensures.taken; out = c.in-Some.ensures.out }))
    (c.supply_first.ensures.reads old.shares.entries) c.requires
