use Rattle.tenant.proofs.supplying.supply_copy_from.Goals as goal

pub returns-in-Ok-clause-conserves : goal.returns-in-Ok-clause-conserves
returns-in-Ok-clause-conserves g c = λ book. record {
  frames = c.frame_back.ensures (g.P.Pages.pages c.args.pages.now) (g.P.Pages.pages c.supply_copy.new.pages) c.args.pool.now c.args.shares.now.entries c.supply_copy.new.shares.entries
      (c.in-Ok.ensures.frames c.args.pool.now c.take.new.self (record { numbers = c.in-Some.ensures.taken; out = c.in-Some.ensures.out }));
  slots = c.supply_copy.ensures.slots book;
  tickets = c.supply_copy.ensures.tickets;
}
