use Rattle.tenant.proofs.supplying.supply_first_from.Goals as goal

pub returns-in-Ok-clause-conserves : goal.returns-in-Ok-clause-conserves
returns-in-Ok-clause-conserves g c = λ book es.
    c.in-Ok.ensures.conserves c.args.pool.now c.take.new.self book es (record { numbers = c.in-Some.ensures.taken; out = c.in-Some.ensures.out })
