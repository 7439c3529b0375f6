-- Why a guest stops.
use Rattle.std.specs.Prelude.{ℕ}
use Rattle.guest_log.specs.declared.stop.Stop.{Stop as RoomStop}
use Rattle.guest_log.specs.declared.stop.Stop.TheVariants as room
use Rattle.host.specs.declared.stops.Stop.{Stop}
use Rattle.host.specs.declared.stops.Stop.TheVariants.{NoFrame, NoSwap, SwapRead, SwapDamaged, Memory, LogFull}

-- the numbers of reports
abbrev pub stop_number : Stop → ℕ
stop_number NoFrame = 1
stop_number NoSwap = 2
stop_number SwapRead = 3
stop_number SwapDamaged = 4
stop_number Memory = 5
stop_number LogFull = 6

-- where a log has no room
abbrev pub stop_of_room : RoomStop → Stop
stop_of_room room.Memory = Memory
stop_of_room room.LogFull = LogFull
