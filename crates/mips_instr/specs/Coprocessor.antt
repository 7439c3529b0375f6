-- The instructions of coprocessors 1 and 2 (MIPS32 Architecture For Programmers, volume II, instruction bit encodings).
use Rattle.std.specs.Prelude.{ℕ, ◌+◌, ◌*◌, ◌^◌}
use Rattle.mips_instr.specs.declared.instr.CoprocessorOp.{CoprocessorOp}
use Rattle.mips_instr.specs.declared.instr.CoprocessorOp.TheVariants.{Cop1, Cop2, Lwc1, Lwc2, Ldc1, Ldc2, Swc1, Swc2, Sdc1, Sdc2}

-- the coprocessor that an instruction is for
abbrev pub coprocessor_unit : CoprocessorOp → ℕ
coprocessor_unit Cop1 = 1
coprocessor_unit Lwc1 = 1
coprocessor_unit Ldc1 = 1
coprocessor_unit Swc1 = 1
coprocessor_unit Sdc1 = 1
coprocessor_unit Cop2 = 2
coprocessor_unit Lwc2 = 2
coprocessor_unit Ldc2 = 2
coprocessor_unit Swc2 = 2
coprocessor_unit Sdc2 = 2

-- the opcode of an instruction
abbrev pub coprocessor_opcode : CoprocessorOp → ℕ
coprocessor_opcode Cop1 = 0x11
coprocessor_opcode Cop2 = 0x12
coprocessor_opcode Lwc1 = 0x31
coprocessor_opcode Lwc2 = 0x32
coprocessor_opcode Ldc1 = 0x35
coprocessor_opcode Ldc2 = 0x36
coprocessor_opcode Swc1 = 0x39
coprocessor_opcode Swc2 = 0x3a
coprocessor_opcode Sdc1 = 0x3d
coprocessor_opcode Sdc2 = 0x3e

-- its word: the opcode and 26 bits
abbrev pub coprocessor_word : CoprocessorOp → ℕ → ℕ
coprocessor_word op code = coprocessor_opcode op * 2 ^ 26 + code
