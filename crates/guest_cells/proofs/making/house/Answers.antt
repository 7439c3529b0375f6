use Rattle.guest_cells.proofs.Housing.{written_still}
use Rattle.guest_cells.proofs.making.house.Goals as goal

pub new-requires-clause-written : goal.new-requires-clause-written
new-requires-clause-written g c trust =
    written_still c.args.stake c.parts_of.result.stake c.args.guest c.parts_of.result.guest 4 c.parts_of.ensures.stake c.parts_of.ensures.guest (c.requires.written trust)
