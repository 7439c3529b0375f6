-- The devices of a machine: its console and its balloon.
use Rattle.std.specs.Prelude.{ℕ}
use Rattle.dev_console.specs.Console.{ConsoleIs, silent_console, input_fed, output_drained}
use Rattle.dev_balloon.specs.Balloon.{BalloonIs, fresh_balloon, page_taken, with_target}

pub record DevicesAre : Type 0 where
  pub console : ConsoleIs
  pub balloon : BalloonIs

-- of a memory of so many pages
abbrev pub fresh_devices : ℕ → DevicesAre
fresh_devices pages = record { console = silent_console; balloon = fresh_balloon pages }

-- after an access to a page of memory, which takes it out of the given ones
abbrev pub page_accessed : ℕ → DevicesAre → DevicesAre
page_accessed page d = record d { balloon = page_taken page d.balloon }

-- with a byte more of the console's input
abbrev pub device_input_fed : ℕ → DevicesAre → DevicesAre
device_input_fed byte d = record d { console = input_fed byte d.console }

-- without the console's output
abbrev pub device_output_drained : DevicesAre → DevicesAre
device_output_drained d = record d { console = output_drained d.console }

-- with the balloon asked to hold so many pages
abbrev pub device_target_set : ℕ → DevicesAre → DevicesAre
device_target_set target d = record d { balloon = with_target target d.balloon }
