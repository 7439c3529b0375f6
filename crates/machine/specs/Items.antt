-- What items do to a machine.
use Rattle.std.specs.Prelude.{◌≡◌, ℕ, suc, ◌+◌, ◌%◌, ◌^◌, Bool, true, ◌&&◌, nat_lt, nat_le, is_some, Option, Some, None, List, [], ◌∷◌, length}
use Rattle.dev_console.specs.Console.{input_room}
use Rattle.devices.specs.Devices.{DevicesAre, device_input_fed, device_output_drained, device_target_set}
use Rattle.items.specs.declared.item.What.{What}
use Rattle.items.specs.declared.item.What.TheVariants.{Step, In, Drain, Target, Poke, Write}
use Rattle.items.specs.declared.item.Item.{Item}
use Rattle.machine.specs.declared.access.Size.TheVariants.{Byte}
use Rattle.machine.specs.Board.{memory_stored}
use Rattle.machine.specs.Poking.{poked}
use Rattle.machine.specs.Step.{Machine, step}
use Rattle.machine.specs.Replies.{probe, bytes_at}

-- at most so many bytes are written at once
abbrev pub write_limit : ℕ
write_limit = 1024

-- whether the machine accepts what happens: a byte of input where the console has room for it, and a write of at most
-- 1,024 bytes each of which has a place in memory; all else it does
abbrev pub accepts : What → Machine → Bool
accepts Step m = true
accepts (In byte) m = nat_lt (length m.board.devices.console.input) input_room
accepts Drain m = true
accepts (Target pages) m = true
accepts (Poke register value) m = true
accepts (Write address bytes) m = nat_le (length bytes) write_limit && is_some (bytes_at m address (length bytes))

-- a byte is stored at a place of memory, as a store of the processor would
abbrev pub byte_written : ℕ → Option ℕ → Machine → Machine
byte_written byte None m = m
byte_written byte (Some at) m = record m { board = memory_stored Byte byte at m.board }

-- the bytes from the k-th on are written, one after another, that of number k where the address + k modulo 2^32 leads
abbrev pub written_from : ℕ → ℕ → List ℕ → Machine → Machine
written_from k address [] m = m
written_from k address (byte ∷ bytes) m = written_from (suc k) address bytes (byte_written byte (probe m ((address + k) % 2 ^ 32)) m)

abbrev pub with_devices : DevicesAre → Machine → Machine
with_devices devices m = record m { board = record m.board { devices = devices } }

-- the machine after what happens
abbrev pub after : What → Machine → Machine
after Step m = step m
after (In byte) m = with_devices (device_input_fed byte m.board.devices) m
after Drain m = with_devices (device_output_drained m.board.devices) m
after (Target pages) m = with_devices (device_target_set pages m.board.devices) m
after (Poke register value) m = record m { cpu = poked register value m.cpu }
after (Write address bytes) m = written_from 0 address bytes m

-- what the machine replies: the console's output when it is drained, and nothing else
abbrev pub reply : What → Machine → Option (List ℕ)
reply Step m = None
reply (In byte) m = None
reply Drain m = Some m.board.devices.console.output
reply (Target pages) m = None
reply (Poke register value) m = None
reply (Write address bytes) m = None

-- the machine after the items, in order
abbrev pub run : List Item → Machine → Machine
run [] m = m
run (i ∷ items) m = run items (after i.what m)

-- each of the items is accepted where it happens
abbrev pub AllAccepted : List Item → Machine → Type 0
AllAccepted [] m = Unit {0}
AllAccepted (i ∷ items) m = (accepts i.what m ≡ true) × AllAccepted items (after i.what m)
