use Rattle.host_tests.proofs.TwoGuests.{handles_of_one}
use Rattle.host_tests.proofs.exec_tests.finish.Goals as goal

pub finish-requires : goal.finish-requires
finish-requires g c = record {
  handles = handles_of_one c.args.host.guests.cells.items c.in-Ok.handles.items c.args.handles c.requires.guests c.in-Ok.ensures.items c.requires.handles;
}
