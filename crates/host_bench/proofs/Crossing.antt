-- What the two threads share.
use denote.RattleType.{RattleType}
use denote.Param.Send.{IsSync, sendable}
use Rattle.std.proofs.Crossing.{crosses}
use Rattle.swapstore.specs.contracts.memory.MemStore as MemStore
use Rattle.swapstore.specs.contracts.memory.MemStoreSwapStore.TheImpl as memory
use Rattle.swapstore.proofs.memory.MemStore.TheSendSync as memory_crosses
use Rattle.cell.specs.contracts.gate.Open as Open
use Rattle.cell.proofs.gate.Open.TheSendSync as open_crosses
use Rattle.host.specs.contracts.host.Host as Host
use Rattle.host.proofs.Crossing.{host_sync}
use Rattle.host_bench.specs.contracts.beside.Switches as Switches

abbrev pub one_host : RattleType
one_host = Host.the_row MemStore.the_row Open.the_row memory.ghosts

pub one_host_sync : IsSync one_host
one_host_sync = host_sync MemStore.the_row Open.the_row memory.ghosts memory_crosses.the_send open_crosses.the_sync

pub switches_sync : IsSync Switches.the_row
switches_sync = search (sendable, crosses) depth 40
