use denote.Param.{param}
use denote.Param.Send.{IsSync, sendable}
use Rattle.std.proofs.Crossing.{crosses}
use Rattle.std.proofs.alloc.Global.TheSendSync as heap
use Rattle.cell.proofs.seat.Seat.TheSendSync as seat
use Rattle.host_bench.specs.contracts.beside.Switches as Switches
use Rattle.host_bench.proofs.Crossing.{one_host, one_host_sync, switches_sync}
use Rattle.host_bench.proofs.beside.at_once.Goals as goal

pub join-answer-requires-send-F : goal.join-answer-requires-send-F
join-answer-requires-send-F g c κs within =
    let shared : IsSync one_host = one_host_sync in
    let told : IsSync Switches.the_row = switches_sync in
    let run : IsSync (param 0 g.row.R) = c.type_bounds.sync-R in
    search (sendable, crosses, seat.the_send, heap.the_field_sync) depth 60 fits 4000
