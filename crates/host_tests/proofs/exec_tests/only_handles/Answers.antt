use Rattle.std.proofs.Common.{rules}
use Rattle.host_tests.proofs.Seats.{its_handles}
use Rattle.host_tests.proofs.TwoGuests.{only_one}
use Rattle.host_tests.proofs.exec_tests.only_handles.Goals as goal

pub returns-clause-handles : goal.returns-clause-handles
returns-clause-handles g c =
    let cells = c.args.host.now.guests.cells.items in
    its_handles cells 0 c.in-Some.one
    (only_one cells c.args.handles.items c.pop.new.self.items c.in-Some.one c.requires (search rules) (search rules))
