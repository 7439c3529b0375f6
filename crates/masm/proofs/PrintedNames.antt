-- The names of the instructions, as the grammar reads them.
use Rattle.std.proofs.Common.{◌≡◌, ℕ, true, List, length, codes, refl, nat_lt, Ok}
use Rattle.std.specs.List.{list_all}
use Rattle.mips_instr.specs.Mnemonics.{register_mnemonic, conditional_move_mnemonic, shift_mnemonic, shift_variable_mnemonic, count_mnemonic, move_from_mnemonic, move_to_mnemonic, multiply_mnemonic, divide_mnemonic, immediate_mnemonic, load_mnemonic, store_mnemonic, cache_mnemonic, branch_mnemonic, branch_zero_mnemonic, jump_mnemonic, trap_mnemonic, trap_immediate_mnemonic, cp0_move_mnemonic}
use Rattle.mips_instr.specs.declared.instr.Instr.{Instr}
use Rattle.mips_instr.specs.declared.instr.Instr.TheVariants as instr
use Rattle.mips_instr.specs.declared.instr.ThreeRegisterOp.{ThreeRegisterOp}
use Rattle.mips_instr.specs.declared.instr.ThreeRegisterOp.TheVariants.{Add, Addu, Sub, Subu, And, Or, Xor, Nor, Slt, Sltu, Mul}
use Rattle.mips_instr.specs.declared.instr.ConditionalMoveOp.{ConditionalMoveOp}
use Rattle.mips_instr.specs.declared.instr.ConditionalMoveOp.TheVariants.{Movz, Movn}
use Rattle.mips_instr.specs.declared.instr.ShiftOp.{ShiftOp}
use Rattle.mips_instr.specs.declared.instr.ShiftOp.TheVariants.{Sll, Srl, Sra}
use Rattle.mips_instr.specs.declared.instr.ShiftVariableOp.{ShiftVariableOp}
use Rattle.mips_instr.specs.declared.instr.ShiftVariableOp.TheVariants.{Sllv, Srlv, Srav}
use Rattle.mips_instr.specs.declared.instr.CountOp.{CountOp}
use Rattle.mips_instr.specs.declared.instr.CountOp.TheVariants.{Clz, Clo}
use Rattle.mips_instr.specs.declared.instr.MoveFromOp.{MoveFromOp}
use Rattle.mips_instr.specs.declared.instr.MoveFromOp.TheVariants.{Mfhi, Mflo}
use Rattle.mips_instr.specs.declared.instr.MoveToOp.{MoveToOp}
use Rattle.mips_instr.specs.declared.instr.MoveToOp.TheVariants.{Mthi, Mtlo}
use Rattle.mips_instr.specs.declared.instr.MultiplyOp.{MultiplyOp}
use Rattle.mips_instr.specs.declared.instr.MultiplyOp.TheVariants.{Mult, Multu, Madd, Maddu, Msub, Msubu}
use Rattle.mips_instr.specs.declared.instr.DivideOp.{DivideOp}
use Rattle.mips_instr.specs.declared.instr.DivideOp.TheVariants.{Div, Divu}
use Rattle.mips_instr.specs.declared.instr.ImmediateOp.{ImmediateOp}
use Rattle.mips_instr.specs.declared.instr.ImmediateOp.TheVariants.{Addi, Addiu, Slti, Sltiu, Andi, Ori, Xori}
use Rattle.mips_instr.specs.declared.instr.LoadOp.{LoadOp}
use Rattle.mips_instr.specs.declared.instr.LoadOp.TheVariants.{Lb, Lh, Lwl, Lw, Lbu, Lhu, Lwr, Ll}
use Rattle.mips_instr.specs.declared.instr.StoreOp.{StoreOp}
use Rattle.mips_instr.specs.declared.instr.StoreOp.TheVariants.{Sb, Sh, Swl, Sw, Swr, Sc}
use Rattle.mips_instr.specs.declared.instr.CacheOp.{CacheOp}
use Rattle.mips_instr.specs.declared.instr.CacheOp.TheVariants.{Cache, Pref}
use Rattle.mips_instr.specs.declared.instr.BranchOp.{BranchOp}
use Rattle.mips_instr.specs.declared.instr.BranchOp.TheVariants.{Beq, Bne, Beql, Bnel}
use Rattle.mips_instr.specs.declared.instr.BranchZeroOp.{BranchZeroOp}
use Rattle.mips_instr.specs.declared.instr.BranchZeroOp.TheVariants.{Bltz, Bgez, Bltzl, Bgezl, Bltzal, Bgezal, Bltzall, Bgezall, Blez, Bgtz, Blezl, Bgtzl}
use Rattle.mips_instr.specs.declared.instr.JumpOp.{JumpOp}
use Rattle.mips_instr.specs.declared.instr.JumpOp.TheVariants.{J, Jal}
use Rattle.mips_instr.specs.declared.instr.TrapOp.{TrapOp}
use Rattle.mips_instr.specs.declared.instr.TrapOp.TheVariants.{Tge, Tgeu, Tlt, Tltu, Teq, Tne}
use Rattle.mips_instr.specs.declared.instr.TrapImmediateOp.{TrapImmediateOp}
use Rattle.mips_instr.specs.declared.instr.TrapImmediateOp.TheVariants.{Tgei, Tgeiu, Tlti, Tltiu, Teqi, Tnei}
use Rattle.mips_instr.specs.declared.instr.Cp0MoveOp.{Cp0MoveOp}
use Rattle.mips_instr.specs.declared.instr.Cp0MoveOp.TheVariants.{Mfc0, Mtc0}
use Rattle.masm_lines.specs.Characters.{continues_name}
use Rattle.masm_lines.specs.Operations.{operation_of}
use Rattle.masm_lines.specs.declared.operation.Operation.TheVariants as operation
use Rattle.masm_names.specs.Mnemonics.{named_instruction, arithmetic_named, memory_named, control_named, hi_lo_named, system_named, single_named, named_register, named_conditional_move, named_shift, named_shift_variable, named_count, named_move_from, named_move_to, named_multiply, named_divide, named_immediate, named_load, named_store, named_cache, named_branch, named_branch_zero, named_jump, named_trap, named_trap_immediate, named_cp0_move, named_tlb}
use Rattle.masm.proofs.TakenApart.{is_dense}

-- a name of letters and digits, which names an instruction
pub record IsName (name : List ℕ) (blank : Instr) : Type 0 where
  pub some : nat_lt 0 (length name) ≡ true
  pub dense : list_all is_dense name ≡ true
  pub continues : list_all continues_name name ≡ true
  pub operation : operation_of name ≡ Ok (operation.Instruction blank)

-- the names of the operations on three registers
pub register_named : (op : ThreeRegisterOp) → IsName (register_mnemonic op) (instr.ThreeRegister op 0 0 0)
unfolding operation_of named_instruction arithmetic_named memory_named control_named hi_lo_named system_named single_named named_register named_conditional_move named_shift named_shift_variable named_count named_move_from named_move_to named_multiply named_divide named_immediate named_load named_store named_cache named_branch named_branch_zero named_jump named_trap named_trap_immediate named_cp0_move named_tlb
register_named Add = record { some = refl; dense = refl; continues = refl; operation = refl }
register_named Addu = record { some = refl; dense = refl; continues = refl; operation = refl }
register_named Sub = record { some = refl; dense = refl; continues = refl; operation = refl }
register_named Subu = record { some = refl; dense = refl; continues = refl; operation = refl }
register_named And = record { some = refl; dense = refl; continues = refl; operation = refl }
register_named Or = record { some = refl; dense = refl; continues = refl; operation = refl }
register_named Xor = record { some = refl; dense = refl; continues = refl; operation = refl }
register_named Nor = record { some = refl; dense = refl; continues = refl; operation = refl }
register_named Slt = record { some = refl; dense = refl; continues = refl; operation = refl }
register_named Sltu = record { some = refl; dense = refl; continues = refl; operation = refl }
register_named Mul = record { some = refl; dense = refl; continues = refl; operation = refl }

-- the names of the conditional moves
pub conditional_move_named : (op : ConditionalMoveOp) → IsName (conditional_move_mnemonic op) (instr.ConditionalMove op 0 0 0)
unfolding operation_of named_instruction arithmetic_named memory_named control_named hi_lo_named system_named single_named named_register named_conditional_move named_shift named_shift_variable named_count named_move_from named_move_to named_multiply named_divide named_immediate named_load named_store named_cache named_branch named_branch_zero named_jump named_trap named_trap_immediate named_cp0_move named_tlb
conditional_move_named Movz = record { some = refl; dense = refl; continues = refl; operation = refl }
conditional_move_named Movn = record { some = refl; dense = refl; continues = refl; operation = refl }

-- the names of the shifts by an amount
pub shift_named : (op : ShiftOp) → IsName (shift_mnemonic op) (instr.Shift op 0 0 0)
unfolding operation_of named_instruction arithmetic_named memory_named control_named hi_lo_named system_named single_named named_register named_conditional_move named_shift named_shift_variable named_count named_move_from named_move_to named_multiply named_divide named_immediate named_load named_store named_cache named_branch named_branch_zero named_jump named_trap named_trap_immediate named_cp0_move named_tlb
shift_named Sll = record { some = refl; dense = refl; continues = refl; operation = refl }
shift_named Srl = record { some = refl; dense = refl; continues = refl; operation = refl }
shift_named Sra = record { some = refl; dense = refl; continues = refl; operation = refl }

-- the names of the shifts by a register
pub shift_variable_named : (op : ShiftVariableOp) → IsName (shift_variable_mnemonic op) (instr.ShiftVariable op 0 0 0)
unfolding operation_of named_instruction arithmetic_named memory_named control_named hi_lo_named system_named single_named named_register named_conditional_move named_shift named_shift_variable named_count named_move_from named_move_to named_multiply named_divide named_immediate named_load named_store named_cache named_branch named_branch_zero named_jump named_trap named_trap_immediate named_cp0_move named_tlb
shift_variable_named Sllv = record { some = refl; dense = refl; continues = refl; operation = refl }
shift_variable_named Srlv = record { some = refl; dense = refl; continues = refl; operation = refl }
shift_variable_named Srav = record { some = refl; dense = refl; continues = refl; operation = refl }

-- the names of the counts
pub count_named : (op : CountOp) → IsName (count_mnemonic op) (instr.Count op 0 0)
unfolding operation_of named_instruction arithmetic_named memory_named control_named hi_lo_named system_named single_named named_register named_conditional_move named_shift named_shift_variable named_count named_move_from named_move_to named_multiply named_divide named_immediate named_load named_store named_cache named_branch named_branch_zero named_jump named_trap named_trap_immediate named_cp0_move named_tlb
count_named Clz = record { some = refl; dense = refl; continues = refl; operation = refl }
count_named Clo = record { some = refl; dense = refl; continues = refl; operation = refl }

-- the names of the moves from HI and LO
pub move_from_named : (op : MoveFromOp) → IsName (move_from_mnemonic op) (instr.MoveFrom op 0)
unfolding operation_of named_instruction arithmetic_named memory_named control_named hi_lo_named system_named single_named named_register named_conditional_move named_shift named_shift_variable named_count named_move_from named_move_to named_multiply named_divide named_immediate named_load named_store named_cache named_branch named_branch_zero named_jump named_trap named_trap_immediate named_cp0_move named_tlb
move_from_named Mfhi = record { some = refl; dense = refl; continues = refl; operation = refl }
move_from_named Mflo = record { some = refl; dense = refl; continues = refl; operation = refl }

-- the names of the moves to HI and LO
pub move_to_named : (op : MoveToOp) → IsName (move_to_mnemonic op) (instr.MoveTo op 0)
unfolding operation_of named_instruction arithmetic_named memory_named control_named hi_lo_named system_named single_named named_register named_conditional_move named_shift named_shift_variable named_count named_move_from named_move_to named_multiply named_divide named_immediate named_load named_store named_cache named_branch named_branch_zero named_jump named_trap named_trap_immediate named_cp0_move named_tlb
move_to_named Mthi = record { some = refl; dense = refl; continues = refl; operation = refl }
move_to_named Mtlo = record { some = refl; dense = refl; continues = refl; operation = refl }

-- the names of the products
pub multiply_named : (op : MultiplyOp) → IsName (multiply_mnemonic op) (instr.Multiply op 0 0)
unfolding operation_of named_instruction arithmetic_named memory_named control_named hi_lo_named system_named single_named named_register named_conditional_move named_shift named_shift_variable named_count named_move_from named_move_to named_multiply named_divide named_immediate named_load named_store named_cache named_branch named_branch_zero named_jump named_trap named_trap_immediate named_cp0_move named_tlb
multiply_named Mult = record { some = refl; dense = refl; continues = refl; operation = refl }
multiply_named Multu = record { some = refl; dense = refl; continues = refl; operation = refl }
multiply_named Madd = record { some = refl; dense = refl; continues = refl; operation = refl }
multiply_named Maddu = record { some = refl; dense = refl; continues = refl; operation = refl }
multiply_named Msub = record { some = refl; dense = refl; continues = refl; operation = refl }
multiply_named Msubu = record { some = refl; dense = refl; continues = refl; operation = refl }

-- the names of the divisions
pub divide_named : (op : DivideOp) → IsName (divide_mnemonic op) (instr.Divide op 0 0)
unfolding operation_of named_instruction arithmetic_named memory_named control_named hi_lo_named system_named single_named named_register named_conditional_move named_shift named_shift_variable named_count named_move_from named_move_to named_multiply named_divide named_immediate named_load named_store named_cache named_branch named_branch_zero named_jump named_trap named_trap_immediate named_cp0_move named_tlb
divide_named Div = record { some = refl; dense = refl; continues = refl; operation = refl }
divide_named Divu = record { some = refl; dense = refl; continues = refl; operation = refl }

-- the names of the operations with an immediate
pub immediate_named : (op : ImmediateOp) → IsName (immediate_mnemonic op) (instr.Immediate op 0 0 0)
unfolding operation_of named_instruction arithmetic_named memory_named control_named hi_lo_named system_named single_named named_register named_conditional_move named_shift named_shift_variable named_count named_move_from named_move_to named_multiply named_divide named_immediate named_load named_store named_cache named_branch named_branch_zero named_jump named_trap named_trap_immediate named_cp0_move named_tlb
immediate_named Addi = record { some = refl; dense = refl; continues = refl; operation = refl }
immediate_named Addiu = record { some = refl; dense = refl; continues = refl; operation = refl }
immediate_named Slti = record { some = refl; dense = refl; continues = refl; operation = refl }
immediate_named Sltiu = record { some = refl; dense = refl; continues = refl; operation = refl }
immediate_named Andi = record { some = refl; dense = refl; continues = refl; operation = refl }
immediate_named Ori = record { some = refl; dense = refl; continues = refl; operation = refl }
immediate_named Xori = record { some = refl; dense = refl; continues = refl; operation = refl }

-- the names of the loads
pub load_named : (op : LoadOp) → IsName (load_mnemonic op) (instr.Load op 0 0 0)
unfolding operation_of named_instruction arithmetic_named memory_named control_named hi_lo_named system_named single_named named_register named_conditional_move named_shift named_shift_variable named_count named_move_from named_move_to named_multiply named_divide named_immediate named_load named_store named_cache named_branch named_branch_zero named_jump named_trap named_trap_immediate named_cp0_move named_tlb
load_named Lb = record { some = refl; dense = refl; continues = refl; operation = refl }
load_named Lh = record { some = refl; dense = refl; continues = refl; operation = refl }
load_named Lwl = record { some = refl; dense = refl; continues = refl; operation = refl }
load_named Lw = record { some = refl; dense = refl; continues = refl; operation = refl }
load_named Lbu = record { some = refl; dense = refl; continues = refl; operation = refl }
load_named Lhu = record { some = refl; dense = refl; continues = refl; operation = refl }
load_named Lwr = record { some = refl; dense = refl; continues = refl; operation = refl }
load_named Ll = record { some = refl; dense = refl; continues = refl; operation = refl }

-- the names of the stores
pub store_named : (op : StoreOp) → IsName (store_mnemonic op) (instr.Store op 0 0 0)
unfolding operation_of named_instruction arithmetic_named memory_named control_named hi_lo_named system_named single_named named_register named_conditional_move named_shift named_shift_variable named_count named_move_from named_move_to named_multiply named_divide named_immediate named_load named_store named_cache named_branch named_branch_zero named_jump named_trap named_trap_immediate named_cp0_move named_tlb
store_named Sb = record { some = refl; dense = refl; continues = refl; operation = refl }
store_named Sh = record { some = refl; dense = refl; continues = refl; operation = refl }
store_named Swl = record { some = refl; dense = refl; continues = refl; operation = refl }
store_named Sw = record { some = refl; dense = refl; continues = refl; operation = refl }
store_named Swr = record { some = refl; dense = refl; continues = refl; operation = refl }
store_named Sc = record { some = refl; dense = refl; continues = refl; operation = refl }

-- the names of the cache operations and prefetches
pub cache_named : (op : CacheOp) → IsName (cache_mnemonic op) (instr.Cache op 0 0 0)
unfolding operation_of named_instruction arithmetic_named memory_named control_named hi_lo_named system_named single_named named_register named_conditional_move named_shift named_shift_variable named_count named_move_from named_move_to named_multiply named_divide named_immediate named_load named_store named_cache named_branch named_branch_zero named_jump named_trap named_trap_immediate named_cp0_move named_tlb
cache_named Cache = record { some = refl; dense = refl; continues = refl; operation = refl }
cache_named Pref = record { some = refl; dense = refl; continues = refl; operation = refl }

-- the names of the branches on two registers
pub branch_named : (op : BranchOp) → IsName (branch_mnemonic op) (instr.Branch op 0 0 0)
unfolding operation_of named_instruction arithmetic_named memory_named control_named hi_lo_named system_named single_named named_register named_conditional_move named_shift named_shift_variable named_count named_move_from named_move_to named_multiply named_divide named_immediate named_load named_store named_cache named_branch named_branch_zero named_jump named_trap named_trap_immediate named_cp0_move named_tlb
branch_named Beq = record { some = refl; dense = refl; continues = refl; operation = refl }
branch_named Bne = record { some = refl; dense = refl; continues = refl; operation = refl }
branch_named Beql = record { some = refl; dense = refl; continues = refl; operation = refl }
branch_named Bnel = record { some = refl; dense = refl; continues = refl; operation = refl }

-- the names of the branches on one register
pub branch_zero_named : (op : BranchZeroOp) → IsName (branch_zero_mnemonic op) (instr.BranchZero op 0 0)
unfolding operation_of named_instruction arithmetic_named memory_named control_named hi_lo_named system_named single_named named_register named_conditional_move named_shift named_shift_variable named_count named_move_from named_move_to named_multiply named_divide named_immediate named_load named_store named_cache named_branch named_branch_zero named_jump named_trap named_trap_immediate named_cp0_move named_tlb
branch_zero_named Bltz = record { some = refl; dense = refl; continues = refl; operation = refl }
branch_zero_named Bgez = record { some = refl; dense = refl; continues = refl; operation = refl }
branch_zero_named Bltzl = record { some = refl; dense = refl; continues = refl; operation = refl }
branch_zero_named Bgezl = record { some = refl; dense = refl; continues = refl; operation = refl }
branch_zero_named Bltzal = record { some = refl; dense = refl; continues = refl; operation = refl }
branch_zero_named Bgezal = record { some = refl; dense = refl; continues = refl; operation = refl }
branch_zero_named Bltzall = record { some = refl; dense = refl; continues = refl; operation = refl }
branch_zero_named Bgezall = record { some = refl; dense = refl; continues = refl; operation = refl }
branch_zero_named Blez = record { some = refl; dense = refl; continues = refl; operation = refl }
branch_zero_named Bgtz = record { some = refl; dense = refl; continues = refl; operation = refl }
branch_zero_named Blezl = record { some = refl; dense = refl; continues = refl; operation = refl }
branch_zero_named Bgtzl = record { some = refl; dense = refl; continues = refl; operation = refl }

-- the names of the jumps
pub jump_named : (op : JumpOp) → IsName (jump_mnemonic op) (instr.Jump op 0)
unfolding operation_of named_instruction arithmetic_named memory_named control_named hi_lo_named system_named single_named named_register named_conditional_move named_shift named_shift_variable named_count named_move_from named_move_to named_multiply named_divide named_immediate named_load named_store named_cache named_branch named_branch_zero named_jump named_trap named_trap_immediate named_cp0_move named_tlb
jump_named J = record { some = refl; dense = refl; continues = refl; operation = refl }
jump_named Jal = record { some = refl; dense = refl; continues = refl; operation = refl }

-- the names of the traps
pub trap_named : (op : TrapOp) → IsName (trap_mnemonic op) (instr.Trap op 0 0 0)
unfolding operation_of named_instruction arithmetic_named memory_named control_named hi_lo_named system_named single_named named_register named_conditional_move named_shift named_shift_variable named_count named_move_from named_move_to named_multiply named_divide named_immediate named_load named_store named_cache named_branch named_branch_zero named_jump named_trap named_trap_immediate named_cp0_move named_tlb
trap_named Tge = record { some = refl; dense = refl; continues = refl; operation = refl }
trap_named Tgeu = record { some = refl; dense = refl; continues = refl; operation = refl }
trap_named Tlt = record { some = refl; dense = refl; continues = refl; operation = refl }
trap_named Tltu = record { some = refl; dense = refl; continues = refl; operation = refl }
trap_named Teq = record { some = refl; dense = refl; continues = refl; operation = refl }
trap_named Tne = record { some = refl; dense = refl; continues = refl; operation = refl }

-- the names of the traps with an immediate
pub trap_immediate_named : (op : TrapImmediateOp) → IsName (trap_immediate_mnemonic op) (instr.TrapImmediate op 0 0)
unfolding operation_of named_instruction arithmetic_named memory_named control_named hi_lo_named system_named single_named named_register named_conditional_move named_shift named_shift_variable named_count named_move_from named_move_to named_multiply named_divide named_immediate named_load named_store named_cache named_branch named_branch_zero named_jump named_trap named_trap_immediate named_cp0_move named_tlb
trap_immediate_named Tgei = record { some = refl; dense = refl; continues = refl; operation = refl }
trap_immediate_named Tgeiu = record { some = refl; dense = refl; continues = refl; operation = refl }
trap_immediate_named Tlti = record { some = refl; dense = refl; continues = refl; operation = refl }
trap_immediate_named Tltiu = record { some = refl; dense = refl; continues = refl; operation = refl }
trap_immediate_named Teqi = record { some = refl; dense = refl; continues = refl; operation = refl }
trap_immediate_named Tnei = record { some = refl; dense = refl; continues = refl; operation = refl }

-- the names of the moves from and to system registers
pub cp0_move_named : (op : Cp0MoveOp) → IsName (cp0_move_mnemonic op) (instr.Cp0Move op 0 0 0)
unfolding operation_of named_instruction arithmetic_named memory_named control_named hi_lo_named system_named single_named named_register named_conditional_move named_shift named_shift_variable named_count named_move_from named_move_to named_multiply named_divide named_immediate named_load named_store named_cache named_branch named_branch_zero named_jump named_trap named_trap_immediate named_cp0_move named_tlb
cp0_move_named Mfc0 = record { some = refl; dense = refl; continues = refl; operation = refl }
cp0_move_named Mtc0 = record { some = refl; dense = refl; continues = refl; operation = refl }

-- the name `syscall`
pub syscall_named : IsName (codes "syscall") (instr.Syscall 0)
unfolding operation_of named_instruction arithmetic_named memory_named control_named hi_lo_named system_named single_named named_register named_conditional_move named_shift named_shift_variable named_count named_move_from named_move_to named_multiply named_divide named_immediate named_load named_store named_cache named_branch named_branch_zero named_jump named_trap named_trap_immediate named_cp0_move named_tlb
syscall_named = record { some = refl; dense = refl; continues = refl; operation = refl }

-- the name `break`
pub break_named : IsName (codes "break") (instr.Break 0)
unfolding operation_of named_instruction arithmetic_named memory_named control_named hi_lo_named system_named single_named named_register named_conditional_move named_shift named_shift_variable named_count named_move_from named_move_to named_multiply named_divide named_immediate named_load named_store named_cache named_branch named_branch_zero named_jump named_trap named_trap_immediate named_cp0_move named_tlb
break_named = record { some = refl; dense = refl; continues = refl; operation = refl }

-- the name `sync`
pub sync_named : IsName (codes "sync") (instr.Sync 0)
unfolding operation_of named_instruction arithmetic_named memory_named control_named hi_lo_named system_named single_named named_register named_conditional_move named_shift named_shift_variable named_count named_move_from named_move_to named_multiply named_divide named_immediate named_load named_store named_cache named_branch named_branch_zero named_jump named_trap named_trap_immediate named_cp0_move named_tlb
sync_named = record { some = refl; dense = refl; continues = refl; operation = refl }

-- the name `jr`
pub jr_named : IsName (codes "jr") (instr.JumpRegister 0)
unfolding operation_of named_instruction arithmetic_named memory_named control_named hi_lo_named system_named single_named named_register named_conditional_move named_shift named_shift_variable named_count named_move_from named_move_to named_multiply named_divide named_immediate named_load named_store named_cache named_branch named_branch_zero named_jump named_trap named_trap_immediate named_cp0_move named_tlb
jr_named = record { some = refl; dense = refl; continues = refl; operation = refl }

-- the name `jalr`
pub jalr_named : IsName (codes "jalr") (instr.JumpLinkRegister 0 0)
unfolding operation_of named_instruction arithmetic_named memory_named control_named hi_lo_named system_named single_named named_register named_conditional_move named_shift named_shift_variable named_count named_move_from named_move_to named_multiply named_divide named_immediate named_load named_store named_cache named_branch named_branch_zero named_jump named_trap named_trap_immediate named_cp0_move named_tlb
jalr_named = record { some = refl; dense = refl; continues = refl; operation = refl }

-- the name `lui`
pub lui_named : IsName (codes "lui") (instr.LoadUpper 0 0)
unfolding operation_of named_instruction arithmetic_named memory_named control_named hi_lo_named system_named single_named named_register named_conditional_move named_shift named_shift_variable named_count named_move_from named_move_to named_multiply named_divide named_immediate named_load named_store named_cache named_branch named_branch_zero named_jump named_trap named_trap_immediate named_cp0_move named_tlb
lui_named = record { some = refl; dense = refl; continues = refl; operation = refl }

-- the name `wait`
pub wait_named : IsName (codes "wait") (instr.Wait 0)
unfolding operation_of named_instruction arithmetic_named memory_named control_named hi_lo_named system_named single_named named_register named_conditional_move named_shift named_shift_variable named_count named_move_from named_move_to named_multiply named_divide named_immediate named_load named_store named_cache named_branch named_branch_zero named_jump named_trap named_trap_immediate named_cp0_move named_tlb
wait_named = record { some = refl; dense = refl; continues = refl; operation = refl }
