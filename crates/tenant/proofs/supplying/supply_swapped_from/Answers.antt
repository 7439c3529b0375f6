use Rattle.tenant.proofs.supplying.supply_swapped_from.Goals as goal

pub returns-in-Ok-clause-conserves : goal.returns-in-Ok-clause-conserves
returns-in-Ok-clause-conserves g c = λ es.
    c.in-Ok.ensures.conserves c.args.pool.now c.take.new.self c.args.slots.now c.give.new.self es
    (record { numbers = c.in-Some.ensures.taken; out = c.in-Some.ensures.out }) (record { numbers = c.give.ensures.given; out = c.give.ensures.out })
