use Rattle.std.proofs.Common.{ℕ, List, [], ◌∷◌, Option, Some, None, subst}
use Rattle.std.specs.Option.{option_to_list}
use Rattle.frames.specs.FreeList.{FreeList}
use Rattle.page_moves.specs.Moves.{MovesFrames, Gives, Takes}
use Rattle.page_moves.proofs.OneOwner.{one_after, one_evicted, one_came_free, one_kept}
use Rattle.page_moves.proofs.tests.evicted.Goals as goal

pub give-requires : goal.give-requires
give-requires g c =
    let old = c.args.parts.now in
    let new = c.evict_in.new in
    one_came_free 3 2 old.map new.pages old.shares.entries new.shares.entries old.pool old.slots c.in-Ok-Some.no c.requires
    (subst (λ (o : Option ℕ). MovesFrames old.map old.pool old.shares.entries new.pages old.pool new.shares.entries (option_to_list o)) c.in-Ok-Some.field-0-is (c.in-Ok-Some.ensures.frames old.pool))

pub returns-in-Ok-Some : goal.returns-in-Ok-Some
returns-in-Ok-Some g c =
    let old = c.args.parts.now in
    let new = c.evict_in.new in
    one_evicted 3 2 old.map new.pages old.shares.entries new.shares.entries old.pool c.give.new.self old.slots c.take.new.self c.in-Ok-Some.no c.in-Some.slot
    (subst (λ (o : Option ℕ). MovesFrames old.map old.pool old.shares.entries new.pages old.pool new.shares.entries (option_to_list o)) c.in-Ok-Some.field-0-is (c.in-Ok-Some.ensures.frames old.pool))
    (record { numbers = λ k. let a = c.give.ensures.given k in let e = c.in-Ok-Some.no-is in cc; out = c.give.ensures.out }) (record { numbers = c.in-Some.ensures.taken; out = c.in-Some.ensures.out })
    (c.in-Ok-Some.ensures.used c.take.new.self) c.evict_in.ensures.tickets c.evict_in.ensures.reads c.requires

pub returns-in-Ok-None : goal.returns-in-Ok-None
returns-in-Ok-None g c =
    let old = c.args.parts.now in
    let new = c.evict_in.new in
    one_kept 3 2 old.map new.pages old.shares.entries new.shares.entries old.pool old.slots c.take.new.self c.in-Some.slot
    (subst (λ (o : Option ℕ). MovesFrames old.map old.pool old.shares.entries new.pages old.pool new.shares.entries (option_to_list o)) c.in-Ok-None.field-0-is (c.in-Ok-None.ensures.frames old.pool))
    (record { numbers = c.in-Some.ensures.taken; out = c.in-Some.ensures.out })
    (c.in-Ok-None.ensures.used c.take.new.self) c.evict_in.ensures.tickets c.evict_in.ensures.reads c.requires
