-- Threads may share what the threads of a run tell each other.
use denote.Param.Send.{IsSync, sendable}
use Rattle.std.proofs.Crossing.{crosses}
use Rattle.host_run.specs.contracts.switches.Switches as Switches

pub switches_sync : IsSync Switches.the_row
switches_sync = search (sendable, crosses) depth 40
