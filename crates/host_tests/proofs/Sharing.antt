-- Threads may share the hosts of these tests.
use denote.RattleType.{RattleType}
use denote.Param.Send.{IsSync}
use Rattle.swapstore.specs.contracts.memory.MemStore as MemStore
use Rattle.swapstore.specs.contracts.memory.MemStoreSwapStore.TheImpl as memory
use Rattle.swapstore.proofs.memory.MemStore.TheSendSync as memory_crosses
use Rattle.swapstore.specs.contracts.fault.FaultStore as FaultStore
use Rattle.swapstore.specs.contracts.fault.FaultStoreSwapStore.TheImpl as fault
use Rattle.swapstore.proofs.fault.FaultStore.TheSendSync as fault_crosses
use Rattle.cell.specs.contracts.gate.Open as Open
use Rattle.cell.proofs.gate.Open.TheSendSync as open_crosses
use Rattle.host.specs.contracts.host.Host as Host
use Rattle.host.proofs.Crossing.{host_sync}

abbrev pub race_row : RattleType
race_row = Host.the_row (FaultStore.the_row MemStore.the_row) Open.the_row (fault.ghosts MemStore.the_row memory.ghosts memory.dict)

pub race_sync : IsSync race_row
race_sync = host_sync (FaultStore.the_row MemStore.the_row) Open.the_row (fault.ghosts MemStore.the_row memory.ghosts memory.dict) (fault_crosses.the_send MemStore.the_row memory_crosses.the_send) open_crosses.the_sync
