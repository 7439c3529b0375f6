use denote.Param.{param}
use denote.Param.Send.{IsSync, sendable}
use Rattle.std.proofs.Crossing.{crosses}
use Rattle.std.proofs.alloc.Global.TheSendSync as heap
use Rattle.host_tests.proofs.crews.Crew.TheSendSync as crew
use Rattle.host_tests.proofs.Sharing.{race_row, race_sync}
use Rattle.host_tests.proofs.race.run_two.Goals as goal

pub join-requires-send-F : goal.join-requires-send-F
join-requires-send-F g c κs within =
    let shared : IsSync race_row = race_sync in
    let run : IsSync (param 0 g.row.R) = c.type_bounds.sync-R in
    search (sendable, crosses, crew.the_send, heap.the_field_sync) depth 60 fits 4000
