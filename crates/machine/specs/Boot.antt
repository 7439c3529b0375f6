-- The machine that an image boots.
use Rattle.std.specs.Prelude.{ℕ, List, length, ◌-◌, ◌*◌, fold}
use Rattle.word32.specs.Words.{patched}
use Rattle.word32.specs.Zeros.{zeros}
use Rattle.elf32.specs.declared.image.Segment.{Segment}
use Rattle.elf32.specs.declared.image.Image.{Image}
use Rattle.devices.specs.Devices.{fresh_devices}
use Rattle.mips_cp0.specs.declared.profile.Profile.{Profile}
use Rattle.machine.specs.Processor.{boot_processor}
use Rattle.machine.specs.Board.{Board}
use Rattle.machine.specs.Step.{Machine, machine_with}

-- a memory with a segment's bytes at the segment's address less 80000000
abbrev pub placed : List ℕ → Segment → List ℕ
placed memory s = patched memory (s.address - 0x80000000) s.bytes.items (length s.bytes.items)

-- the bytes of the segments, and zeros elsewhere
abbrev pub boot_memory : Image → ℕ → List ℕ
boot_memory image pages = fold placed (zeros (pages * 4096)) image.segments.items

-- with a console where nothing waits, and a balloon that holds no page and is asked for none
abbrev pub boot_board : Image → ℕ → Board
boot_board image pages = record { memory = boot_memory image pages; devices = fresh_devices pages }

-- the machine of a profile
abbrev pub boot_machine : Profile → Image → ℕ → Machine
boot_machine profile image pages = machine_with (boot_processor profile image.entry) (boot_board image pages)
