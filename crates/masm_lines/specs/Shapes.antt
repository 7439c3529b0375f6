-- The instructions and statements that one function of the code takes.
use Rattle.std.specs.Prelude.{Bool, true, false}
use Rattle.mips_instr.specs.declared.instr.Instr.{Instr}
use Rattle.mips_instr.specs.declared.instr.Instr.TheVariants as instr

-- one half-word, or an offset
abbrev pub has_half : Instr → Bool
has_half (instr.TrapImmediate op rs imm) = true
has_half (instr.LoadUpper rt imm) = true
has_half (instr.Load op rt base offset) = true
has_half (instr.Store op rt base offset) = true
has_half i = false

-- a code alone
abbrev pub has_code : Instr → Bool
has_code (instr.Syscall code) = true
has_code (instr.Break code) = true
has_code (instr.Sync stype) = true
has_code (instr.Wait code) = true
has_code i = false

-- a destination with sources, or no operand at all
abbrev pub has_destination : Instr → Bool
has_destination (instr.ThreeRegister op rd rs rt) = true
has_destination (instr.ConditionalMove op rd rs rt) = true
has_destination (instr.ShiftVariable op rd rt rs) = true
has_destination (instr.Count op rd rs) = true
has_destination (instr.Tlb op) = true
has_destination instr.Eret = true
has_destination (instr.Coprocessor op code) = true
has_destination i = false

-- one or two registers
abbrev pub has_registers : Instr → Bool
has_registers (instr.MoveFrom op rd) = true
has_registers (instr.MoveTo op rs) = true
has_registers (instr.Multiply op rs rt) = true
has_registers (instr.Divide op rs rt) = true
has_registers (instr.JumpRegister rs) = true
has_registers (instr.JumpLinkRegister rd rs) = true
has_registers i = false

-- a target
abbrev pub has_target : Instr → Bool
has_target (instr.Branch op rs rt offset) = true
has_target (instr.BranchZero op rs offset) = true
has_target (instr.Jump op target) = true
has_target i = false
