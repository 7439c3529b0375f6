use Rattle.guest_cells.proofs.Housing.{ready_from}
use Rattle.guest_cells.proofs.cells.GuestCells.boot.Goals as goal

pub take_over-requires-clause-ready : goal.take_over-requires-clause-ready
take_over-requires-clause-ready g c =
    ready_from c.args.config.log_runs c.args.guests.items c.in-Ok.booted.asked.items c.in-Ok.booted.guests.items c.in-Ok.ensures.asked c.in-Ok.ensures.at_boot c.in-Ok.ensures.intact
