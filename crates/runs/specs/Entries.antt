-- Whether a step has entered an exception (MIPS32 Architecture For Programmers, volume III, General Exception Processing and
-- Exception Vector Locations).
use Rattle.std.specs.Prelude.{ℕ, Bool, ◌+◌, ◌==◌, ◌&&◌, ◌||◌, not}
use Rattle.mips_cp0.specs.Bits.{has_bits}
use Rattle.mips_cp0.specs.Status.{status_exl}
use Rattle.mips_cp0.specs.Entered.{vector_base}
use Rattle.machine.specs.Processor.{Processor}
use Rattle.machine.specs.Step.{Machine}

-- an address is that of a handler while Status is this: of a refill, of interrupts of their own, or of all else
abbrev pub is_vector : ℕ → ℕ → Bool
is_vector status address = address == vector_base status || address == vector_base status + 0x180 || address == vector_base status + 0x200

-- since Status was this, EXL was set and PC came to a handler
abbrev pub entered_since : ℕ → Processor → Bool
entered_since status cpu = not (has_bits status_exl status) && has_bits status_exl cpu.cp0.status && is_vector status cpu.pc

-- the same between two states of a machine
abbrev pub has_entered : Machine → Machine → Bool
has_entered before now = entered_since before.cpu.cp0.status now.cpu
