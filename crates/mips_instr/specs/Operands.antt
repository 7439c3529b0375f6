-- The operands of the instructions, and how they are written.
use Rattle.std.specs.Prelude.{ℕ, ℤ, pos, List, ◌++◌, ◌∷◌, [], codes, decimal, nat_lt, if◌then◌else◌, ◌+◌, ◌/◌, ◌%◌, ◌^◌}
use Rattle.std.specs.Fmt.{signed_decimal}
use Rattle.std.specs.Int.{cast_signed, w16}
use Rattle.mips_instr.specs.Coprocessor.{coprocessor_word}
use Rattle.mips_instr.specs.Targets.{branch_target, jump_target}
use Rattle.mips_instr.specs.declared.instr.Instr.{Instr}
use Rattle.mips_instr.specs.declared.instr.Instr.TheVariants as instr
use Rattle.mips_instr.specs.declared.instr.ImmediateOp.{ImmediateOp}
use Rattle.mips_instr.specs.declared.instr.ImmediateOp.TheVariants.{Addi, Addiu, Slti, Sltiu, Andi, Ori, Xori}
use Rattle.mips_instr.specs.declared.operand.Operand.{Operand}
use Rattle.mips_instr.specs.declared.operand.Operand.TheVariants.{Register, Number, Half, Word, Based}
use Rattle.mips_instr.specs.declared.operand.Operands.{Operands}
use Rattle.mips_instr.specs.declared.operand.Operands.TheVariants.{None, One, Two, Three}

-- the signed value of 16 bits
abbrev pub signed_half : ℕ → ℤ
signed_half n = cast_signed w16 n

-- an immediate is an unsigned half-word to the bitwise operations, and a signed one to the others
abbrev pub immediate_operand : ImmediateOp → ℕ → Operand
immediate_operand Addi n = Number (signed_half n)
immediate_operand Addiu n = Number (signed_half n)
immediate_operand Slti n = Number (signed_half n)
immediate_operand Sltiu n = Number (signed_half n)
immediate_operand Andi n = Half n
immediate_operand Ori n = Half n
immediate_operand Xori n = Half n

-- the operands of an instruction at an address, in their order
abbrev pub operands : Instr → ℕ → Operands
operands (instr.ThreeRegister op rd rs rt) address = Three (Register rd) (Register rs) (Register rt)
operands (instr.ConditionalMove op rd rs rt) address = Three (Register rd) (Register rs) (Register rt)
operands (instr.Shift op rd rt sa) address = Three (Register rd) (Register rt) (Number (pos sa))
operands (instr.ShiftVariable op rd rt rs) address = Three (Register rd) (Register rt) (Register rs)
operands (instr.MoveFrom op rd) address = One (Register rd)
operands (instr.MoveTo op rs) address = One (Register rs)
operands (instr.Multiply op rs rt) address = Two (Register rs) (Register rt)
operands (instr.Divide op rs rt) address = Two (Register rs) (Register rt)
operands (instr.Count op rd rs) address = Two (Register rd) (Register rs)
operands (instr.Trap op rs rt code) address = Three (Register rs) (Register rt) (Number (pos code))
operands (instr.TrapImmediate op rs imm) address = Two (Register rs) (Number (signed_half imm))
operands (instr.Syscall code) address = One (Number (pos code))
operands (instr.Break code) address = One (Number (pos code))
operands (instr.Sync stype) address = One (Number (pos stype))
operands (instr.Branch op rs rt offset) address = Three (Register rs) (Register rt) (Word (branch_target address offset))
operands (instr.BranchZero op rs offset) address = Two (Register rs) (Word (branch_target address offset))
operands (instr.Jump op target) address = One (Word (jump_target address target))
operands (instr.JumpRegister rs) address = One (Register rs)
operands (instr.JumpLinkRegister rd rs) address = Two (Register rd) (Register rs)
operands (instr.Immediate op rt rs imm) address = Three (Register rt) (Register rs) (immediate_operand op imm)
operands (instr.LoadUpper rt imm) address = Two (Register rt) (Half imm)
operands (instr.Load op rt base offset) address = Two (Register rt) (Based (signed_half offset) base)
operands (instr.Store op rt base offset) address = Two (Register rt) (Based (signed_half offset) base)
operands (instr.Cache op hint base offset) address = Two (Number (pos hint)) (Based (signed_half offset) base)
operands (instr.Cp0Move op rt rd select) address = Three (Register rt) (Register rd) (Number (pos select))
operands (instr.Tlb op) address = None
operands instr.Eret address = None
operands (instr.Wait code) address = One (Number (pos code))
operands (instr.Coprocessor op code) address = One (Word (coprocessor_word op code))

-- the character of a hexadecimal digit, in lower case
abbrev pub hex_digit : ℕ → ℕ
hex_digit d = if nat_lt d 10 then 48 + d else 87 + d

-- the two digits of a byte
abbrev pub hex_byte : ℕ → List ℕ
hex_byte b = hex_digit (b / 16) ∷ hex_digit (b % 16) ∷ []

-- a register is `$` and its number; numbers are decimal, with a `-` where they are negative; a half-word is `0x` and four
-- hexadecimal digits, a word `0x` and eight; a base register stands in parentheses behind its offset
abbrev pub operand_text : Operand → List ℕ
operand_text (Register r) = codes "$" ++ decimal r
operand_text (Number n) = signed_decimal n
operand_text (Half n) = codes "0x" ++ hex_byte (n / 2 ^ 8) ++ hex_byte (n % 2 ^ 8)
operand_text (Word n) = codes "0x" ++ hex_byte (n / 2 ^ 24) ++ hex_byte (n / 2 ^ 16 % 2 ^ 8) ++ hex_byte (n / 2 ^ 8 % 2 ^ 8) ++ hex_byte (n % 2 ^ 8)
operand_text (Based offset base) = signed_decimal offset ++ codes "($" ++ decimal base ++ codes ")"
