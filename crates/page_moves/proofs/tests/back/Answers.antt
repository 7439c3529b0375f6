use Rattle.std.proofs.Common.{ℕ}
use Rattle.page_moves.proofs.OneOwner.{one_after}
use Rattle.page_moves.proofs.tests.back.Goals as goal

pub returns-in-Ok : goal.returns-in-Ok
returns-in-Ok g c =
    let old = c.args.parts.now in
    one_after 3 2 old.map c.supply_swapped.new.pages old.shares.entries old.shares.entries old.pool c.take.new.self old.slots c.give.new.self
    (c.in-Ok.ensures.conserves old.pool c.take.new.self old.slots c.give.new.self old.shares.entries
    (record { numbers = c.in-Some.ensures.taken; out = c.in-Some.ensures.out }) (record { numbers = c.give.ensures.given; out = c.give.ensures.out }))
    (c.supply_swapped.ensures.reads old.shares.entries) c.requires
