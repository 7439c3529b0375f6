-- The interrupt lines that the devices raise.
use Rattle.std.specs.Prelude.{ℕ, ◌+◌, ◌==◌, cond}
use Rattle.dev_console.specs.Console.{has_input}
use Rattle.dev_balloon.specs.Balloon.{given_count}
use Rattle.devices.specs.Devices.{DevicesAre}

-- bit k is the line of IPk: IP3 is raised while the balloon's target differs from the number of given pages, IP2 while
-- the console's input waits
abbrev pub device_lines : DevicesAre → ℕ
device_lines d = cond (d.balloon.target == given_count d.balloon) 0 8 + cond (has_input d.console.input) 4 0
