-- What a debugger reads of a machine's registers.
use Rattle.std.specs.Prelude.{ℕ, ◌==◌, nat_lt, if◌then◌else◌}
use Rattle.mips_cp0.specs.Access.{register_value}
use Rattle.mips_cp0.specs.declared.register.SystemRegister.TheVariants.{Status, Cause, BadVAddr}
use Rattle.machine.specs.Processor.{Processor, reg}
use Rattle.machine.specs.Board.{lines_of}
use Rattle.machine.specs.Step.{Machine}

-- by the register's number, while these interrupt lines are raised: 0 to 31 are the general registers; then Status, LO, HI, BadVAddr,
-- Cause, and PC
abbrev pub register_of : ℕ → ℕ → Processor → ℕ
register_of number lines cpu =
    if nat_lt number 32 then reg cpu number
    else if number == 32 then register_value lines Status cpu.cp0
    else if number == 33 then cpu.lo
    else if number == 34 then cpu.hi
    else if number == 35 then register_value lines BadVAddr cpu.cp0
    else if number == 36 then register_value lines Cause cpu.cp0
    else cpu.pc

abbrev pub register_shown : ℕ → Machine → ℕ
register_shown number m = register_of number (lines_of m.board) m.cpu
