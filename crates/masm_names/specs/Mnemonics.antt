-- The instruction of a name. The names are those by which the instructions are printed (`mips_isa`).
use Rattle.std.specs.Prelude.{ℕ, List, [], ◌∷◌, find, codes, Option, Some, None, option_map, if◌then◌else◌}
use Rattle.std.specs.Str.{bytes_eq}
use Rattle.mips_instr.specs.Mnemonics.{register_mnemonic, conditional_move_mnemonic, shift_mnemonic, shift_variable_mnemonic, count_mnemonic, move_from_mnemonic, move_to_mnemonic, multiply_mnemonic, divide_mnemonic, immediate_mnemonic, load_mnemonic, store_mnemonic, cache_mnemonic, branch_mnemonic, branch_zero_mnemonic, jump_mnemonic, trap_mnemonic, trap_immediate_mnemonic, cp0_move_mnemonic, tlb_mnemonic}
use Rattle.mips_instr.specs.declared.instr.Instr.{Instr}
use Rattle.mips_instr.specs.declared.instr.Instr.TheVariants as instr
use Rattle.mips_instr.specs.declared.instr.ThreeRegisterOp.{ThreeRegisterOp}
use Rattle.mips_instr.specs.declared.instr.ThreeRegisterOp.TheVariants.{Add, Addu, Sub, Subu, And, Or, Xor, Nor, Slt, Sltu, Mul}
use Rattle.mips_instr.specs.declared.instr.ConditionalMoveOp.{ConditionalMoveOp}
use Rattle.mips_instr.specs.declared.instr.ConditionalMoveOp.TheVariants.{Movz, Movn}
use Rattle.mips_instr.specs.declared.instr.ShiftOp.{ShiftOp}
use Rattle.mips_instr.specs.declared.instr.ShiftOp.TheVariants.{Sll, Srl, Sra}
use Rattle.mips_instr.specs.declared.instr.ShiftVariableOp.{ShiftVariableOp}
use Rattle.mips_instr.specs.declared.instr.ShiftVariableOp.TheVariants.{Sllv, Srlv, Srav}
use Rattle.mips_instr.specs.declared.instr.CountOp.{CountOp}
use Rattle.mips_instr.specs.declared.instr.CountOp.TheVariants.{Clz, Clo}
use Rattle.mips_instr.specs.declared.instr.MoveFromOp.{MoveFromOp}
use Rattle.mips_instr.specs.declared.instr.MoveFromOp.TheVariants.{Mfhi, Mflo}
use Rattle.mips_instr.specs.declared.instr.MoveToOp.{MoveToOp}
use Rattle.mips_instr.specs.declared.instr.MoveToOp.TheVariants.{Mthi, Mtlo}
use Rattle.mips_instr.specs.declared.instr.MultiplyOp.{MultiplyOp}
use Rattle.mips_instr.specs.declared.instr.MultiplyOp.TheVariants.{Mult, Multu, Madd, Maddu, Msub, Msubu}
use Rattle.mips_instr.specs.declared.instr.DivideOp.{DivideOp}
use Rattle.mips_instr.specs.declared.instr.DivideOp.TheVariants.{Div, Divu}
use Rattle.mips_instr.specs.declared.instr.ImmediateOp.{ImmediateOp}
use Rattle.mips_instr.specs.declared.instr.ImmediateOp.TheVariants.{Addi, Addiu, Slti, Sltiu, Andi, Ori, Xori}
use Rattle.mips_instr.specs.declared.instr.LoadOp.{LoadOp}
use Rattle.mips_instr.specs.declared.instr.LoadOp.TheVariants.{Lb, Lh, Lwl, Lw, Lbu, Lhu, Lwr, Ll}
use Rattle.mips_instr.specs.declared.instr.StoreOp.{StoreOp}
use Rattle.mips_instr.specs.declared.instr.StoreOp.TheVariants.{Sb, Sh, Swl, Sw, Swr, Sc}
use Rattle.mips_instr.specs.declared.instr.CacheOp.{CacheOp}
use Rattle.mips_instr.specs.declared.instr.CacheOp.TheVariants.{Cache, Pref}
use Rattle.mips_instr.specs.declared.instr.BranchOp.{BranchOp}
use Rattle.mips_instr.specs.declared.instr.BranchOp.TheVariants.{Beq, Bne, Beql, Bnel}
use Rattle.mips_instr.specs.declared.instr.BranchZeroOp.{BranchZeroOp}
use Rattle.mips_instr.specs.declared.instr.BranchZeroOp.TheVariants.{Bltz, Bgez, Bltzl, Bgezl, Bltzal, Bgezal, Bltzall, Bgezall, Blez, Bgtz, Blezl, Bgtzl}
use Rattle.mips_instr.specs.declared.instr.JumpOp.{JumpOp}
use Rattle.mips_instr.specs.declared.instr.JumpOp.TheVariants.{J, Jal}
use Rattle.mips_instr.specs.declared.instr.TrapOp.{TrapOp}
use Rattle.mips_instr.specs.declared.instr.TrapOp.TheVariants.{Tge, Tgeu, Tlt, Tltu, Teq, Tne}
use Rattle.mips_instr.specs.declared.instr.TrapImmediateOp.{TrapImmediateOp}
use Rattle.mips_instr.specs.declared.instr.TrapImmediateOp.TheVariants.{Tgei, Tgeiu, Tlti, Tltiu, Teqi, Tnei}
use Rattle.mips_instr.specs.declared.instr.Cp0MoveOp.{Cp0MoveOp}
use Rattle.mips_instr.specs.declared.instr.Cp0MoveOp.TheVariants.{Mfc0, Mtc0}
use Rattle.mips_instr.specs.declared.instr.TlbOp.{TlbOp}
use Rattle.mips_instr.specs.declared.instr.TlbOp.TheVariants.{Tlbr, Tlbwi, Tlbwr, Tlbp}

-- the first operation of a list that has the name
abbrev pub named_in : {Op : Type 0} → List Op → (Op → List ℕ) → List ℕ → Option Op
named_in ops name_of name = find (λ op. bytes_eq (name_of op) name) ops

abbrev pub register_ops : List ThreeRegisterOp
register_ops = Add ∷ Addu ∷ Sub ∷ Subu ∷ And ∷ Or ∷ Xor ∷ Nor ∷ Slt ∷ Sltu ∷ Mul ∷ []

abbrev pub conditional_move_ops : List ConditionalMoveOp
conditional_move_ops = Movz ∷ Movn ∷ []

abbrev pub shift_ops : List ShiftOp
shift_ops = Sll ∷ Srl ∷ Sra ∷ []

abbrev pub shift_variable_ops : List ShiftVariableOp
shift_variable_ops = Sllv ∷ Srlv ∷ Srav ∷ []

abbrev pub count_ops : List CountOp
count_ops = Clz ∷ Clo ∷ []

abbrev pub move_from_ops : List MoveFromOp
move_from_ops = Mfhi ∷ Mflo ∷ []

abbrev pub move_to_ops : List MoveToOp
move_to_ops = Mthi ∷ Mtlo ∷ []

abbrev pub multiply_ops : List MultiplyOp
multiply_ops = Mult ∷ Multu ∷ Madd ∷ Maddu ∷ Msub ∷ Msubu ∷ []

abbrev pub divide_ops : List DivideOp
divide_ops = Div ∷ Divu ∷ []

abbrev pub immediate_ops : List ImmediateOp
immediate_ops = Addi ∷ Addiu ∷ Slti ∷ Sltiu ∷ Andi ∷ Ori ∷ Xori ∷ []

abbrev pub load_ops : List LoadOp
load_ops = Lb ∷ Lh ∷ Lwl ∷ Lw ∷ Lbu ∷ Lhu ∷ Lwr ∷ Ll ∷ []

abbrev pub store_ops : List StoreOp
store_ops = Sb ∷ Sh ∷ Swl ∷ Sw ∷ Swr ∷ Sc ∷ []

abbrev pub cache_ops : List CacheOp
cache_ops = Cache ∷ Pref ∷ []

abbrev pub branch_ops : List BranchOp
branch_ops = Beq ∷ Bne ∷ Beql ∷ Bnel ∷ []

abbrev pub branch_zero_ops : List BranchZeroOp
branch_zero_ops = Bltz ∷ Bgez ∷ Bltzl ∷ Bgezl ∷ Bltzal ∷ Bgezal ∷ Bltzall ∷ Bgezall ∷ Blez ∷ Bgtz ∷ Blezl ∷ Bgtzl ∷ []

abbrev pub jump_ops : List JumpOp
jump_ops = J ∷ Jal ∷ []

abbrev pub trap_ops : List TrapOp
trap_ops = Tge ∷ Tgeu ∷ Tlt ∷ Tltu ∷ Teq ∷ Tne ∷ []

abbrev pub trap_immediate_ops : List TrapImmediateOp
trap_immediate_ops = Tgei ∷ Tgeiu ∷ Tlti ∷ Tltiu ∷ Teqi ∷ Tnei ∷ []

abbrev pub cp0_move_ops : List Cp0MoveOp
cp0_move_ops = Mfc0 ∷ Mtc0 ∷ []

abbrev pub tlb_ops : List TlbOp
tlb_ops = Tlbr ∷ Tlbwi ∷ Tlbwr ∷ Tlbp ∷ []

unfoldable pub named_register : List ℕ → Option ThreeRegisterOp
named_register name = named_in register_ops register_mnemonic name

unfoldable pub named_conditional_move : List ℕ → Option ConditionalMoveOp
named_conditional_move name = named_in conditional_move_ops conditional_move_mnemonic name

unfoldable pub named_shift : List ℕ → Option ShiftOp
named_shift name = named_in shift_ops shift_mnemonic name

unfoldable pub named_shift_variable : List ℕ → Option ShiftVariableOp
named_shift_variable name = named_in shift_variable_ops shift_variable_mnemonic name

unfoldable pub named_count : List ℕ → Option CountOp
named_count name = named_in count_ops count_mnemonic name

unfoldable pub named_move_from : List ℕ → Option MoveFromOp
named_move_from name = named_in move_from_ops move_from_mnemonic name

unfoldable pub named_move_to : List ℕ → Option MoveToOp
named_move_to name = named_in move_to_ops move_to_mnemonic name

unfoldable pub named_multiply : List ℕ → Option MultiplyOp
named_multiply name = named_in multiply_ops multiply_mnemonic name

unfoldable pub named_divide : List ℕ → Option DivideOp
named_divide name = named_in divide_ops divide_mnemonic name

unfoldable pub named_immediate : List ℕ → Option ImmediateOp
named_immediate name = named_in immediate_ops immediate_mnemonic name

unfoldable pub named_load : List ℕ → Option LoadOp
named_load name = named_in load_ops load_mnemonic name

unfoldable pub named_store : List ℕ → Option StoreOp
named_store name = named_in store_ops store_mnemonic name

unfoldable pub named_cache : List ℕ → Option CacheOp
named_cache name = named_in cache_ops cache_mnemonic name

unfoldable pub named_branch : List ℕ → Option BranchOp
named_branch name = named_in branch_ops branch_mnemonic name

unfoldable pub named_branch_zero : List ℕ → Option BranchZeroOp
named_branch_zero name = named_in branch_zero_ops branch_zero_mnemonic name

unfoldable pub named_jump : List ℕ → Option JumpOp
named_jump name = named_in jump_ops jump_mnemonic name

unfoldable pub named_trap : List ℕ → Option TrapOp
named_trap name = named_in trap_ops trap_mnemonic name

unfoldable pub named_trap_immediate : List ℕ → Option TrapImmediateOp
named_trap_immediate name = named_in trap_immediate_ops trap_immediate_mnemonic name

unfoldable pub named_cp0_move : List ℕ → Option Cp0MoveOp
named_cp0_move name = named_in cp0_move_ops cp0_move_mnemonic name

unfoldable pub named_tlb : List ℕ → Option TlbOp
named_tlb name = named_in tlb_ops tlb_mnemonic name

-- the first of two that is there
abbrev pub first_of : {A : Type 0} → Option A → Option A → Option A
first_of None b = b
first_of (Some a) b = Some a

-- an operation on general registers, with all operands 0
unfoldable pub arithmetic_named : List ℕ → Option Instr
arithmetic_named name =
    first_of (option_map (λ op. instr.ThreeRegister op 0 0 0) (named_register name)) (
    first_of (option_map (λ op. instr.ConditionalMove op 0 0 0) (named_conditional_move name)) (
    first_of (option_map (λ op. instr.Shift op 0 0 0) (named_shift name)) (
    first_of (option_map (λ op. instr.ShiftVariable op 0 0 0) (named_shift_variable name)) (
    option_map (λ op. instr.Count op 0 0) (named_count name)))))

-- an operation with HI and LO, with all operands 0
unfoldable pub hi_lo_named : List ℕ → Option Instr
hi_lo_named name =
    first_of (option_map (λ op. instr.MoveFrom op 0) (named_move_from name)) (
    first_of (option_map (λ op. instr.MoveTo op 0) (named_move_to name)) (
    first_of (option_map (λ op. instr.Multiply op 0 0) (named_multiply name)) (
    option_map (λ op. instr.Divide op 0 0) (named_divide name))))

-- an operation with an immediate or an offset, with all operands 0
unfoldable pub memory_named : List ℕ → Option Instr
memory_named name =
    first_of (option_map (λ op. instr.Immediate op 0 0 0) (named_immediate name)) (
    first_of (option_map (λ op. instr.Load op 0 0 0) (named_load name)) (
    first_of (option_map (λ op. instr.Store op 0 0 0) (named_store name)) (
    option_map (λ op. instr.Cache op 0 0 0) (named_cache name))))

-- a branch, a jump or a trap, with all operands 0
unfoldable pub control_named : List ℕ → Option Instr
control_named name =
    first_of (option_map (λ op. instr.Branch op 0 0 0) (named_branch name)) (
    first_of (option_map (λ op. instr.BranchZero op 0 0) (named_branch_zero name)) (
    first_of (option_map (λ op. instr.Jump op 0) (named_jump name)) (
    first_of (option_map (λ op. instr.Trap op 0 0 0) (named_trap name)) (
    option_map (λ op. instr.TrapImmediate op 0 0) (named_trap_immediate name)))))

-- an operation on coprocessor 0, with all operands 0
unfoldable pub system_named : List ℕ → Option Instr
system_named name =
    first_of (option_map (λ op. instr.Cp0Move op 0 0 0) (named_cp0_move name)) (
    option_map (λ op. instr.Tlb op) (named_tlb name))

-- an instruction whose name no other shares a shape with
unfoldable pub single_named : List ℕ → Option Instr
single_named name =
    if bytes_eq (codes "syscall") name then Some (instr.Syscall 0)
    else if bytes_eq (codes "break") name then Some (instr.Break 0)
    else if bytes_eq (codes "sync") name then Some (instr.Sync 0)
    else if bytes_eq (codes "jr") name then Some (instr.JumpRegister 0)
    else if bytes_eq (codes "jalr") name then Some (instr.JumpLinkRegister 0 0)
    else if bytes_eq (codes "lui") name then Some (instr.LoadUpper 0 0)
    else if bytes_eq (codes "eret") name then Some instr.Eret
    else if bytes_eq (codes "wait") name then Some (instr.Wait 0)
    else None

-- the instruction of a name, with all operands 0
unfoldable pub named_instruction : List ℕ → Option Instr
named_instruction name =
    first_of (arithmetic_named name) (first_of (memory_named name) (first_of (control_named name)
    (first_of (hi_lo_named name) (first_of (system_named name) (single_named name)))))
