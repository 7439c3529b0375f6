-- The names of the instructions in assembly language (MIPS32 Architecture For Programmers, volume II).
use Rattle.std.specs.Prelude.{ℕ, List, codes}
use Rattle.mips_instr.specs.declared.instr.ThreeRegisterOp.{ThreeRegisterOp}
use Rattle.mips_instr.specs.declared.instr.ThreeRegisterOp.TheVariants.{Add, Addu, Sub, Subu, And, Or, Xor, Nor, Slt, Sltu, Mul}
use Rattle.mips_instr.specs.declared.instr.ConditionalMoveOp.{ConditionalMoveOp}
use Rattle.mips_instr.specs.declared.instr.ConditionalMoveOp.TheVariants.{Movz, Movn}
use Rattle.mips_instr.specs.declared.instr.ShiftOp.{ShiftOp}
use Rattle.mips_instr.specs.declared.instr.ShiftOp.TheVariants.{Sll, Srl, Sra}
use Rattle.mips_instr.specs.declared.instr.ShiftVariableOp.{ShiftVariableOp}
use Rattle.mips_instr.specs.declared.instr.ShiftVariableOp.TheVariants.{Sllv, Srlv, Srav}
use Rattle.mips_instr.specs.declared.instr.MoveFromOp.{MoveFromOp}
use Rattle.mips_instr.specs.declared.instr.MoveFromOp.TheVariants.{Mfhi, Mflo}
use Rattle.mips_instr.specs.declared.instr.MoveToOp.{MoveToOp}
use Rattle.mips_instr.specs.declared.instr.MoveToOp.TheVariants.{Mthi, Mtlo}
use Rattle.mips_instr.specs.declared.instr.MultiplyOp.{MultiplyOp}
use Rattle.mips_instr.specs.declared.instr.MultiplyOp.TheVariants.{Mult, Multu, Madd, Maddu, Msub, Msubu}
use Rattle.mips_instr.specs.declared.instr.DivideOp.{DivideOp}
use Rattle.mips_instr.specs.declared.instr.DivideOp.TheVariants.{Div, Divu}
use Rattle.mips_instr.specs.declared.instr.CountOp.{CountOp}
use Rattle.mips_instr.specs.declared.instr.CountOp.TheVariants.{Clz, Clo}
use Rattle.mips_instr.specs.declared.instr.TrapOp.{TrapOp}
use Rattle.mips_instr.specs.declared.instr.TrapOp.TheVariants.{Tge, Tgeu, Tlt, Tltu, Teq, Tne}
use Rattle.mips_instr.specs.declared.instr.TrapImmediateOp.{TrapImmediateOp}
use Rattle.mips_instr.specs.declared.instr.TrapImmediateOp.TheVariants.{Tgei, Tgeiu, Tlti, Tltiu, Teqi, Tnei}
use Rattle.mips_instr.specs.declared.instr.BranchOp.{BranchOp}
use Rattle.mips_instr.specs.declared.instr.BranchOp.TheVariants.{Beq, Bne, Beql, Bnel}
use Rattle.mips_instr.specs.declared.instr.BranchZeroOp.{BranchZeroOp}
use Rattle.mips_instr.specs.declared.instr.BranchZeroOp.TheVariants.{Bltz, Bgez, Bltzl, Bgezl, Bltzal, Bgezal, Bltzall, Bgezall, Blez, Bgtz, Blezl, Bgtzl}
use Rattle.mips_instr.specs.declared.instr.JumpOp.{JumpOp}
use Rattle.mips_instr.specs.declared.instr.JumpOp.TheVariants.{J, Jal}
use Rattle.mips_instr.specs.declared.instr.ImmediateOp.{ImmediateOp}
use Rattle.mips_instr.specs.declared.instr.ImmediateOp.TheVariants.{Addi, Addiu, Slti, Sltiu, Andi, Ori, Xori}
use Rattle.mips_instr.specs.declared.instr.LoadOp.{LoadOp}
use Rattle.mips_instr.specs.declared.instr.LoadOp.TheVariants.{Lb, Lh, Lwl, Lw, Lbu, Lhu, Lwr, Ll}
use Rattle.mips_instr.specs.declared.instr.StoreOp.{StoreOp}
use Rattle.mips_instr.specs.declared.instr.StoreOp.TheVariants.{Sb, Sh, Swl, Sw, Swr, Sc}
use Rattle.mips_instr.specs.declared.instr.CacheOp.{CacheOp}
use Rattle.mips_instr.specs.declared.instr.CacheOp.TheVariants.{Cache, Pref}
use Rattle.mips_instr.specs.declared.instr.Cp0MoveOp.{Cp0MoveOp}
use Rattle.mips_instr.specs.declared.instr.Cp0MoveOp.TheVariants.{Mfc0, Mtc0}
use Rattle.mips_instr.specs.declared.instr.TlbOp.{TlbOp}
use Rattle.mips_instr.specs.declared.instr.TlbOp.TheVariants.{Tlbr, Tlbwi, Tlbwr, Tlbp}
use Rattle.mips_instr.specs.declared.instr.Instr.{Instr}
use Rattle.mips_instr.specs.declared.instr.Instr.TheVariants as instr

abbrev pub register_mnemonic : ThreeRegisterOp → List ℕ
register_mnemonic Add = codes "add"
register_mnemonic Addu = codes "addu"
register_mnemonic Sub = codes "sub"
register_mnemonic Subu = codes "subu"
register_mnemonic And = codes "and"
register_mnemonic Or = codes "or"
register_mnemonic Xor = codes "xor"
register_mnemonic Nor = codes "nor"
register_mnemonic Slt = codes "slt"
register_mnemonic Sltu = codes "sltu"
register_mnemonic Mul = codes "mul"

abbrev pub conditional_move_mnemonic : ConditionalMoveOp → List ℕ
conditional_move_mnemonic Movz = codes "movz"
conditional_move_mnemonic Movn = codes "movn"

abbrev pub shift_mnemonic : ShiftOp → List ℕ
shift_mnemonic Sll = codes "sll"
shift_mnemonic Srl = codes "srl"
shift_mnemonic Sra = codes "sra"

abbrev pub shift_variable_mnemonic : ShiftVariableOp → List ℕ
shift_variable_mnemonic Sllv = codes "sllv"
shift_variable_mnemonic Srlv = codes "srlv"
shift_variable_mnemonic Srav = codes "srav"

abbrev pub move_from_mnemonic : MoveFromOp → List ℕ
move_from_mnemonic Mfhi = codes "mfhi"
move_from_mnemonic Mflo = codes "mflo"

abbrev pub move_to_mnemonic : MoveToOp → List ℕ
move_to_mnemonic Mthi = codes "mthi"
move_to_mnemonic Mtlo = codes "mtlo"

abbrev pub multiply_mnemonic : MultiplyOp → List ℕ
multiply_mnemonic Mult = codes "mult"
multiply_mnemonic Multu = codes "multu"
multiply_mnemonic Madd = codes "madd"
multiply_mnemonic Maddu = codes "maddu"
multiply_mnemonic Msub = codes "msub"
multiply_mnemonic Msubu = codes "msubu"

abbrev pub divide_mnemonic : DivideOp → List ℕ
divide_mnemonic Div = codes "div"
divide_mnemonic Divu = codes "divu"

abbrev pub count_mnemonic : CountOp → List ℕ
count_mnemonic Clz = codes "clz"
count_mnemonic Clo = codes "clo"

abbrev pub trap_mnemonic : TrapOp → List ℕ
trap_mnemonic Tge = codes "tge"
trap_mnemonic Tgeu = codes "tgeu"
trap_mnemonic Tlt = codes "tlt"
trap_mnemonic Tltu = codes "tltu"
trap_mnemonic Teq = codes "teq"
trap_mnemonic Tne = codes "tne"

abbrev pub trap_immediate_mnemonic : TrapImmediateOp → List ℕ
trap_immediate_mnemonic Tgei = codes "tgei"
trap_immediate_mnemonic Tgeiu = codes "tgeiu"
trap_immediate_mnemonic Tlti = codes "tlti"
trap_immediate_mnemonic Tltiu = codes "tltiu"
trap_immediate_mnemonic Teqi = codes "teqi"
trap_immediate_mnemonic Tnei = codes "tnei"

abbrev pub branch_mnemonic : BranchOp → List ℕ
branch_mnemonic Beq = codes "beq"
branch_mnemonic Bne = codes "bne"
branch_mnemonic Beql = codes "beql"
branch_mnemonic Bnel = codes "bnel"

abbrev pub branch_zero_mnemonic : BranchZeroOp → List ℕ
branch_zero_mnemonic Bltz = codes "bltz"
branch_zero_mnemonic Bgez = codes "bgez"
branch_zero_mnemonic Bltzl = codes "bltzl"
branch_zero_mnemonic Bgezl = codes "bgezl"
branch_zero_mnemonic Bltzal = codes "bltzal"
branch_zero_mnemonic Bgezal = codes "bgezal"
branch_zero_mnemonic Bltzall = codes "bltzall"
branch_zero_mnemonic Bgezall = codes "bgezall"
branch_zero_mnemonic Blez = codes "blez"
branch_zero_mnemonic Bgtz = codes "bgtz"
branch_zero_mnemonic Blezl = codes "blezl"
branch_zero_mnemonic Bgtzl = codes "bgtzl"

abbrev pub jump_mnemonic : JumpOp → List ℕ
jump_mnemonic J = codes "j"
jump_mnemonic Jal = codes "jal"

abbrev pub immediate_mnemonic : ImmediateOp → List ℕ
immediate_mnemonic Addi = codes "addi"
immediate_mnemonic Addiu = codes "addiu"
immediate_mnemonic Slti = codes "slti"
immediate_mnemonic Sltiu = codes "sltiu"
immediate_mnemonic Andi = codes "andi"
immediate_mnemonic Ori = codes "ori"
immediate_mnemonic Xori = codes "xori"

abbrev pub load_mnemonic : LoadOp → List ℕ
load_mnemonic Lb = codes "lb"
load_mnemonic Lh = codes "lh"
load_mnemonic Lwl = codes "lwl"
load_mnemonic Lw = codes "lw"
load_mnemonic Lbu = codes "lbu"
load_mnemonic Lhu = codes "lhu"
load_mnemonic Lwr = codes "lwr"
load_mnemonic Ll = codes "ll"

abbrev pub store_mnemonic : StoreOp → List ℕ
store_mnemonic Sb = codes "sb"
store_mnemonic Sh = codes "sh"
store_mnemonic Swl = codes "swl"
store_mnemonic Sw = codes "sw"
store_mnemonic Swr = codes "swr"
store_mnemonic Sc = codes "sc"

abbrev pub cache_mnemonic : CacheOp → List ℕ
cache_mnemonic Cache = codes "cache"
cache_mnemonic Pref = codes "pref"

abbrev pub cp0_move_mnemonic : Cp0MoveOp → List ℕ
cp0_move_mnemonic Mfc0 = codes "mfc0"
cp0_move_mnemonic Mtc0 = codes "mtc0"

abbrev pub tlb_mnemonic : TlbOp → List ℕ
tlb_mnemonic Tlbr = codes "tlbr"
tlb_mnemonic Tlbwi = codes "tlbwi"
tlb_mnemonic Tlbwr = codes "tlbwr"
tlb_mnemonic Tlbp = codes "tlbp"

-- the name of an instruction; those of coprocessors 1 and 2 are given by their words
abbrev pub mnemonic : Instr → List ℕ
mnemonic (instr.ThreeRegister op a b c) = register_mnemonic op
mnemonic (instr.ConditionalMove op a b c) = conditional_move_mnemonic op
mnemonic (instr.Shift op a b c) = shift_mnemonic op
mnemonic (instr.ShiftVariable op a b c) = shift_variable_mnemonic op
mnemonic (instr.MoveFrom op a) = move_from_mnemonic op
mnemonic (instr.MoveTo op a) = move_to_mnemonic op
mnemonic (instr.Multiply op a b) = multiply_mnemonic op
mnemonic (instr.Divide op a b) = divide_mnemonic op
mnemonic (instr.Count op a b) = count_mnemonic op
mnemonic (instr.Trap op a b c) = trap_mnemonic op
mnemonic (instr.TrapImmediate op a b) = trap_immediate_mnemonic op
mnemonic (instr.Syscall a) = codes "syscall"
mnemonic (instr.Break a) = codes "break"
mnemonic (instr.Sync a) = codes "sync"
mnemonic (instr.Branch op a b c) = branch_mnemonic op
mnemonic (instr.BranchZero op a b) = branch_zero_mnemonic op
mnemonic (instr.Jump op a) = jump_mnemonic op
mnemonic (instr.JumpRegister a) = codes "jr"
mnemonic (instr.JumpLinkRegister a b) = codes "jalr"
mnemonic (instr.Immediate op a b c) = immediate_mnemonic op
mnemonic (instr.LoadUpper a b) = codes "lui"
mnemonic (instr.Load op a b c) = load_mnemonic op
mnemonic (instr.Store op a b c) = store_mnemonic op
mnemonic (instr.Cache op a b c) = cache_mnemonic op
mnemonic (instr.Cp0Move op a b c) = cp0_move_mnemonic op
mnemonic (instr.Tlb op) = tlb_mnemonic op
mnemonic instr.Eret = codes "eret"
mnemonic (instr.Wait a) = codes "wait"
mnemonic (instr.Coprocessor a b) = codes ".word"
