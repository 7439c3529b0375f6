use denote.Param.{param}
use denote.Param.Send.{IsSync, sendable}
use Rattle.std.proofs.Crossing.{crosses}
use Rattle.std.proofs.alloc.Global.TheSendSync as heap
use Rattle.std.proofs.net.tcp.TcpListener.TheSendSync as door
use Rattle.std.specs.contracts.net.TcpListener as TcpListener
use Rattle.cell.proofs.seat.Seat.TheSendSync as seat
use Rattle.host.proofs.Crossing.{host_sync}
use Rattle.host.specs.contracts.host.Host as Host
use Rattle.host_run.proofs.Crossing.{switches_sync}
use Rattle.host_run.specs.contracts.switches.Switches as Switches
use Rattle.host_run.proofs.threads.at_once.Goals as goal

pub join-runners-requires-send-F : goal.join-runners-requires-send-F
join-runners-requires-send-F g c κs within =
    let shared : IsSync (Host.the_row (param 0 g.row.S) (param 1 g.row.G) g.S.SwapStore) = host_sync (param 0 g.row.S) (param 1 g.row.G) g.S.SwapStore c.type_bounds.send-S c.type_bounds.sync-G in
    let told : IsSync Switches.the_row = switches_sync in
    let run : IsSync (param 2 g.row.R) = c.type_bounds.sync-R in
    let at_door : IsSync TcpListener.the_row = door.the_sync in
    search (sendable, crosses, seat.the_send, heap.the_field_sync) depth 60 fits 4000
