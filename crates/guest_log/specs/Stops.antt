-- The numbers of stops.
use Rattle.std.specs.Prelude.{ℕ}
use Rattle.guest_log.specs.declared.stop.Stop.{Stop}
use Rattle.guest_log.specs.declared.stop.Stop.TheVariants.{Memory, LogFull}

abbrev pub stop_number : Stop → ℕ
stop_number Memory = 5
stop_number LogFull = 6
