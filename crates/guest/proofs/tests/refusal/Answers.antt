use Rattle.std.proofs.Common.{ap, sym, ◌∙◌}
use Rattle.guest_pages.specs.Holdings.{tickets_held}
use Rattle.guest_pages.proofs.Outlines.{outline_tickets}
use Rattle.guest.proofs.tests.refusal.Goals as goal

pub returns-in-Ok-clause-tickets : goal.returns-in-Ok-clause-tickets
returns-in-Ok-clause-tickets c = λ k.
    sym (outline_tickets k c.input.new.self.bus.pages) ∙ ap (tickets_held k) c.input.ensures.outline ∙ outline_tickets k c.args.guest.now.bus.pages
