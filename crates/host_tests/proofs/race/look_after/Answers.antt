use denote.Param.{param}
use denote.Param.Send.{IsSync, sendable}
use Rattle.std.proofs.Crossing.{crosses}
use Rattle.host_tests.proofs.Sharing.{race_row, race_sync}
use Rattle.host_tests.proofs.race.look_after.Goals as goal

pub join-requires-send-F : goal.join-requires-send-F
join-requires-send-F g c κs within =
    let shared : IsSync race_row = race_sync in
    let run : IsSync (param 0 g.row.R) = c.type_bounds.sync-R in
    search (sendable, crosses) depth 60 fits 4000
