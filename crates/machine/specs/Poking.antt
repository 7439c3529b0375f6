-- What a debugger's write of a register does.
use Rattle.std.specs.Prelude.{ℕ, ◌==◌, nat_lt, if◌then◌else◌, None}
use Rattle.mips_cp0.specs.Access.{register_written}
use Rattle.mips_cp0.specs.declared.register.SystemRegister.TheVariants.{Status, Cause}
use Rattle.machine.specs.Processor.{Processor, with_reg}

-- by the register's number: 0 to 31 are the general registers, of which register 0 stays; then Status and Cause, of which
-- the bits are written that MTC0 writes, LO, HI, BadVAddr, which stays, and PC, which leaves the delay slot
abbrev pub poked : ℕ → ℕ → Processor → Processor
poked register value cpu =
    if nat_lt register 32 then with_reg register value cpu
    else if register == 32 then record cpu { cp0 = register_written value Status cpu.cp0 }
    else if register == 33 then record cpu { lo = value }
    else if register == 34 then record cpu { hi = value }
    else if register == 36 then record cpu { cp0 = register_written value Cause cpu.cp0 }
    else if register == 37 then record cpu { pc = value; slot = None }
    else cpu
