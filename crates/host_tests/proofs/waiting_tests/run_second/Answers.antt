use denote.Param.{param}
use denote.Param.Send.{IsSync, sendable}
use Rattle.std.proofs.Crossing.{crosses}
use Rattle.std.proofs.alloc.Global.TheSendSync as heap
use Rattle.swapstore.specs.contracts.memory.MemStore as MemStore
use Rattle.swapstore.specs.contracts.memory.MemStoreSwapStore.TheImpl as memory
use Rattle.swapstore.proofs.memory.MemStore.TheSendSync as memory_crosses
use Rattle.cell.proofs.seat.Seat.TheSendSync as seat
use Rattle.host.specs.contracts.host.Host as Host
use Rattle.host.proofs.Crossing.{host_sync}
use Rattle.host_tests.specs.contracts.waiting_tests.Waiting as Waiting
use Rattle.host_tests.proofs.waiting_tests.Waiting.TheSendSync as waiting_crosses
use Rattle.host_tests.proofs.waiting_tests.run_second.Goals as goal

pub join-requires-send-F : goal.join-requires-send-F
join-requires-send-F g c κs within =
    let shared : IsSync (Host.the_row MemStore.the_row Waiting.the_row memory.ghosts) = host_sync MemStore.the_row Waiting.the_row memory.ghosts memory_crosses.the_send waiting_crosses.the_sync in
    let run : IsSync (param 0 g.row.R) = c.type_bounds.sync-R in
    search (sendable, crosses, seat.the_send, heap.the_field_sync) depth 60 fits 4000
