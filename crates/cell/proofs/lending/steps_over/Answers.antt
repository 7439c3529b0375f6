use Rattle.lent_pages.specs.Contents.{its_slots}
use Rattle.cell.proofs.Lent.{stepped_written, needs_there}
use Rattle.cell.proofs.lending.steps_over.Goals as goal

pub returns-in-Ok-clause-written : goal.returns-in-Ok-clause-written
returns-in-Ok-clause-written g c =
    stepped_written c.args.stake.now c.settle_pause-needs.new.stake c.args.guest.now c.make_steps.new.guest c.make_steps.ensures.kept c.settle_pause-needs.ensures.kept

pub returns-in-Ok-clause-there : goal.returns-in-Ok-clause-there
returns-in-Ok-clause-there g c =
    needs_there c.settle_pause-needs.result c.in-Ok.progress.pause c.in-Ok.ensures.paused.0 c.args.guest.now.bus.pages c.make_steps.new.guest.bus.pages c.settle_pause-needs.ensures.needs c.in-Ok.ensures.there
    c.in-Ok.ensures.paused.1

pub returns-in-Err-clause-written : goal.returns-in-Err-clause-written
returns-in-Err-clause-written g c intact written = c.make_steps.ensures.kept intact (its_slots c.args.stake.now.contents) written
