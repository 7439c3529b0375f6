-- Each printed line puts its instruction.
use Rattle.std.specs.List.{list_any}
use Rattle.masm_lines.specs.Characters.{is_comma}
use Rattle.std.proofs.Common.{◌≡◌, false, not, ℕ, ◌%◌, ◌^◌, ◌<◌, ◌≤◌, pos, List, [], ◌∷◌, ◌++◌, refl, arith, Ok, None, codes, decimal}
use Rattle.std.specs.Fmt.{signed_decimal}
use Rattle.std.specs.Int.{to_le_bytes, w32}
use Rattle.mips_instr.specs.Coprocessor.{coprocessor_word}
use Rattle.mips_instr.specs.Operands.{signed_half, operand_text}
use Rattle.mips_instr.specs.Targets.{branch_target, jump_target}
use Rattle.mips_instr.specs.Text.{instr_text}
use Rattle.mips_instr.specs.declared.instr.Instr.{Instr}
use Rattle.mips_instr.specs.declared.instr.Instr.TheVariants as instr
use Rattle.mips_instr.specs.declared.instr.ImmediateOp.{ImmediateOp}
use Rattle.mips_instr.specs.declared.instr.ImmediateOp.TheVariants.{Addi, Addiu, Slti, Sltiu, Andi, Ori, Xori}
use Rattle.mips_instr.specs.declared.operand.Operand.TheVariants as printed
use Rattle.mips_instr.specs.declared.instr.ThreeRegisterOp.{ThreeRegisterOp}
use Rattle.mips_instr.specs.declared.instr.ConditionalMoveOp.{ConditionalMoveOp}
use Rattle.mips_instr.specs.declared.instr.ShiftOp.{ShiftOp}
use Rattle.mips_instr.specs.declared.instr.ShiftVariableOp.{ShiftVariableOp}
use Rattle.mips_instr.specs.declared.instr.CountOp.{CountOp}
use Rattle.mips_instr.specs.declared.instr.MoveFromOp.{MoveFromOp}
use Rattle.mips_instr.specs.declared.instr.MoveToOp.{MoveToOp}
use Rattle.mips_instr.specs.declared.instr.MultiplyOp.{MultiplyOp}
use Rattle.mips_instr.specs.declared.instr.DivideOp.{DivideOp}
use Rattle.mips_instr.specs.declared.instr.LoadOp.{LoadOp}
use Rattle.mips_instr.specs.declared.instr.StoreOp.{StoreOp}
use Rattle.mips_instr.specs.declared.instr.CacheOp.{CacheOp}
use Rattle.mips_instr.specs.declared.instr.BranchOp.{BranchOp}
use Rattle.mips_instr.specs.declared.instr.BranchZeroOp.{BranchZeroOp}
use Rattle.mips_instr.specs.declared.instr.JumpOp.{JumpOp}
use Rattle.mips_instr.specs.declared.instr.TrapOp.{TrapOp}
use Rattle.mips_instr.specs.declared.instr.TrapImmediateOp.{TrapImmediateOp}
use Rattle.mips_instr.specs.declared.instr.Cp0MoveOp.{Cp0MoveOp}
use Rattle.mips_instr.specs.declared.instr.TlbOp.{TlbOp}
use Rattle.mips_instr.specs.declared.instr.TlbOp.TheVariants.{Tlbr, Tlbwi, Tlbwr, Tlbp}
use Rattle.mips_instr.specs.declared.instr.CoprocessorOp.{CoprocessorOp}
use Rattle.mips_instr.specs.declared.instr.CoprocessorOp.TheVariants.{Cop1, Cop2, Lwc1, Lwc2, Ldc1, Ldc2, Swc1, Swc2, Sdc1, Sdc2}
use Rattle.masm_names.specs.Mnemonics.{named_instruction, arithmetic_named, memory_named, control_named, hi_lo_named, system_named, single_named, named_register, named_conditional_move, named_shift, named_shift_variable, named_count, named_move_from, named_move_to, named_multiply, named_divide, named_immediate, named_load, named_store, named_cache, named_branch, named_branch_zero, named_jump, named_trap, named_trap_immediate, named_cp0_move, named_tlb}
use Rattle.mips_instr.specs.Mnemonics.{register_mnemonic, conditional_move_mnemonic, shift_mnemonic, shift_variable_mnemonic, count_mnemonic, move_from_mnemonic, move_to_mnemonic, multiply_mnemonic, divide_mnemonic, immediate_mnemonic, load_mnemonic, store_mnemonic, cache_mnemonic, branch_mnemonic, branch_zero_mnemonic, jump_mnemonic, trap_mnemonic, trap_immediate_mnemonic, cp0_move_mnemonic, tlb_mnemonic}
use Rattle.masm_lines.specs.Grammar.{body_of, label_of, statement_in, statement_or_nothing, line_of}
use Rattle.masm_lines.specs.Instructions.{with_operands}
use Rattle.masm.specs.Laws.{HasFields, LinePuts, item_printed}
use Rattle.masm.specs.Meanings.{Code, Bytes, item_of, aimed, branch_offset, jump_index}
use Rattle.masm_lines.specs.Operands.{Written, Register, Plain, Number, Based, operands_in}
use Rattle.masm_lines.specs.Operations.{instruction_statement, directive_statement, operation_of, named_directive, operand_form, statement_with}
use Rattle.masm_lines.specs.declared.operation.OperandForm.TheVariants.{Separate}
use Rattle.masm_lines.specs.Statements.{Instruction, Transfer, Word}
use Rattle.masm_lines.specs.Tokens.{trimmed, trimmed_start}
use Rattle.masm_lines.specs.declared.operation.Directive.TheVariants as directive
use Rattle.masm_lines.specs.declared.operation.Operation.TheVariants as operation
use Rattle.masm.proofs.TakenApart.{is_solid, solid_no_comma, all_imply, none_pass, IsOperand, AreOperands, one_operand, two_operands, three_operands}
use Rattle.masm.proofs.PrintedNames.{IsName, register_named, conditional_move_named, shift_named, shift_variable_named, count_named, move_from_named, move_to_named, multiply_named, divide_named, immediate_named, load_named, store_named, cache_named, branch_named, branch_zero_named, jump_named, trap_named, trap_immediate_named, cp0_move_named, syscall_named, break_named, sync_named, jr_named, jalr_named, lui_named, wait_named}
use Rattle.masm.proofs.PrintedNumbers.{decimal_number, half_number, hex_half_number, hex_word_number}
use Rattle.masm.proofs.PrintedOperands.{register_operand, number_operand, based_operand}
use Rattle.masm.proofs.PrintedRanges.{natural_in_range, half_in_range, printed_branch, branch_small, printed_jump, jump_small}
use Rattle.masm.proofs.PrintedLines.{line_read, instruction_line}

-- the line of an instruction without a target
plain_line : (name ops : List ℕ) (blank i : Instr) (ws : List Written) (address : ℕ) → IsName name blank → AreOperands ops ws → instruction_statement blank ws ≡ Ok (Instruction i) → LinePuts (name ++ 32 ∷ ops) address (Code i)
unfolding item_of
plain_line name ops blank i ws address is are reads = (Instruction i, instruction_line name ops blank ws (Instruction i) is are reads, λ names. refl)

-- the line of an instruction with a target
aimed_line : (name ops : List ℕ) (blank half i : Instr) (ws : List Written) (address target : ℕ) → IsName name blank → AreOperands ops ws → instruction_statement blank ws ≡ Ok (Transfer half (Number (pos target))) → target < 2 ^ 32 → aimed half address target ≡ Ok i → LinePuts (name ++ 32 ∷ ops) address (Code i)
unfolding item_of
aimed_line name ops blank half i ws address target is are reads small whole =
    (Transfer half (Number (pos target)), instruction_line name ops blank ws (Transfer half (Number (pos target))) is are reads, λ names. rw (natural_in_range 32 0 4294967295 target (omega arith), whole) refl)

-- a field in decimal is an operand
natural_operand : (n : ℕ) → n < 2 ^ 40 → IsOperand (decimal n) (Plain (Number (pos n)))
natural_operand n h = number_operand (decimal n) (pos n) (decimal_number n h)

-- a signed half-word is an operand
half_operand : (n : ℕ) → n < 2 ^ 16 → IsOperand (signed_decimal (signed_half n)) (Plain (Number (signed_half n)))
half_operand n h = number_operand (signed_decimal (signed_half n)) (signed_half n) (half_number n h)

-- an unsigned half-word is an operand
unsigned_operand : (n : ℕ) → n < 2 ^ 16 → IsOperand (operand_text (printed.Half n)) (Plain (Number (pos n)))
unsigned_operand n h = number_operand (operand_text (printed.Half n)) (pos n) (hex_half_number n h)

-- a target is an operand
word_operand : (n : ℕ) → n < 2 ^ 32 → IsOperand (operand_text (printed.Word n)) (Plain (Number (pos n)))
word_operand n h = number_operand (operand_text (printed.Word n)) (pos n) (hex_word_number n h)

-- an offset with its base is an operand
offset_operand : (n base : ℕ) → n < 2 ^ 16 → base < 32 → IsOperand (operand_text (printed.Based (signed_half n) base)) (Based (signed_half n) base)
offset_operand n base h r = based_operand (signed_decimal (signed_half n)) (signed_half n) base (half_number n h) r

-- the statement of operations on three registers
register_reads : (op : ThreeRegisterOp) (a b c : ℕ) → instruction_statement (instr.ThreeRegister op 0 0 0) (Register a ∷ Register b ∷ Register c ∷ []) ≡ Ok (Instruction (instr.ThreeRegister op a b c))
unfolding instruction_statement with_operands
register_reads op a b c = refl

-- the statement of conditional moves
conditional_move_reads : (op : ConditionalMoveOp) (a b c : ℕ) → instruction_statement (instr.ConditionalMove op 0 0 0) (Register a ∷ Register b ∷ Register c ∷ []) ≡ Ok (Instruction (instr.ConditionalMove op a b c))
unfolding instruction_statement with_operands
conditional_move_reads op a b c = refl

-- the statement of shifts by a register
shift_variable_reads : (op : ShiftVariableOp) (a b c : ℕ) → instruction_statement (instr.ShiftVariable op 0 0 0) (Register a ∷ Register b ∷ Register c ∷ []) ≡ Ok (Instruction (instr.ShiftVariable op a b c))
unfolding instruction_statement with_operands
shift_variable_reads op a b c = refl

-- the statement of products
multiply_reads : (op : MultiplyOp) (a b : ℕ) → instruction_statement (instr.Multiply op 0 0) (Register a ∷ Register b ∷ []) ≡ Ok (Instruction (instr.Multiply op a b))
unfolding instruction_statement with_operands
multiply_reads op a b = refl

-- the statement of divisions
divide_reads : (op : DivideOp) (a b : ℕ) → instruction_statement (instr.Divide op 0 0) (Register a ∷ Register b ∷ []) ≡ Ok (Instruction (instr.Divide op a b))
unfolding instruction_statement with_operands
divide_reads op a b = refl

-- the statement of counts
count_reads : (op : CountOp) (a b : ℕ) → instruction_statement (instr.Count op 0 0) (Register a ∷ Register b ∷ []) ≡ Ok (Instruction (instr.Count op a b))
unfolding instruction_statement with_operands
count_reads op a b = refl

-- the statement of moves from HI and LO
move_from_reads : (op : MoveFromOp) (a : ℕ) → instruction_statement (instr.MoveFrom op 0) (Register a ∷ []) ≡ Ok (Instruction (instr.MoveFrom op a))
unfolding instruction_statement with_operands
move_from_reads op a = refl

-- the statement of moves to HI and LO
move_to_reads : (op : MoveToOp) (a : ℕ) → instruction_statement (instr.MoveTo op 0) (Register a ∷ []) ≡ Ok (Instruction (instr.MoveTo op a))
unfolding instruction_statement with_operands
move_to_reads op a = refl

-- the statement of `jr`
jr_reads : (a : ℕ) → instruction_statement (instr.JumpRegister 0) (Register a ∷ []) ≡ Ok (Instruction (instr.JumpRegister a))
unfolding instruction_statement with_operands
jr_reads a = refl

-- the statement of `jalr`
jalr_reads : (a b : ℕ) → instruction_statement (instr.JumpLinkRegister 0 0) (Register a ∷ Register b ∷ []) ≡ Ok (Instruction (instr.JumpLinkRegister a b))
unfolding instruction_statement with_operands
jalr_reads a b = refl

-- the statement of shifts by an amount
shift_reads : (op : ShiftOp) (a b n : ℕ) → n < 32 → instruction_statement (instr.Shift op 0 0 0) (Register a ∷ Register b ∷ Plain (Number (pos n)) ∷ []) ≡ Ok (Instruction (instr.Shift op a b n))
unfolding instruction_statement with_operands
shift_reads op a b n h = rw (natural_in_range 32 0 31 n (omega arith)) refl

-- the statement of traps
trap_reads : (op : TrapOp) (a b n : ℕ) → n < 2 ^ 10 → instruction_statement (instr.Trap op 0 0 0) (Register a ∷ Register b ∷ Plain (Number (pos n)) ∷ []) ≡ Ok (Instruction (instr.Trap op a b n))
unfolding instruction_statement with_operands
trap_reads op a b n h = rw (natural_in_range 32 0 1023 n (omega arith)) refl

-- the statement of moves from and to system registers
cp0_move_reads : (op : Cp0MoveOp) (a b n : ℕ) → n < 8 → instruction_statement (instr.Cp0Move op 0 0 0) (Register a ∷ Register b ∷ Plain (Number (pos n)) ∷ []) ≡ Ok (Instruction (instr.Cp0Move op a b n))
unfolding instruction_statement with_operands
cp0_move_reads op a b n h = rw (natural_in_range 32 0 7 n (omega arith)) refl

-- the statement of `syscall`
syscall_reads : (n : ℕ) → n < 2 ^ 20 → instruction_statement (instr.Syscall 0) (Plain (Number (pos n)) ∷ []) ≡ Ok (Instruction (instr.Syscall n))
unfolding instruction_statement with_operands
syscall_reads n h = rw (natural_in_range 32 0 1048575 n (omega arith)) refl

-- the statement of `break`
break_reads : (n : ℕ) → n < 2 ^ 20 → instruction_statement (instr.Break 0) (Plain (Number (pos n)) ∷ []) ≡ Ok (Instruction (instr.Break n))
unfolding instruction_statement with_operands
break_reads n h = rw (natural_in_range 32 0 1048575 n (omega arith)) refl

-- the statement of `sync`
sync_reads : (n : ℕ) → n < 32 → instruction_statement (instr.Sync 0) (Plain (Number (pos n)) ∷ []) ≡ Ok (Instruction (instr.Sync n))
unfolding instruction_statement with_operands
sync_reads n h = rw (natural_in_range 32 0 31 n (omega arith)) refl

-- the statement of `wait`
wait_reads : (n : ℕ) → n < 2 ^ 19 → instruction_statement (instr.Wait 0) (Plain (Number (pos n)) ∷ []) ≡ Ok (Instruction (instr.Wait n))
unfolding instruction_statement with_operands
wait_reads n h = rw (natural_in_range 32 0 524287 n (omega arith)) refl

-- the statement of traps with an immediate
trap_immediate_reads : (op : TrapImmediateOp) (a n : ℕ) → n < 2 ^ 16 → instruction_statement (instr.TrapImmediate op 0 0) (Register a ∷ Plain (Number (signed_half n)) ∷ []) ≡ Ok (Instruction (instr.TrapImmediate op a n))
unfolding instruction_statement with_operands
trap_immediate_reads op a n h = rw (half_in_range n h) refl

-- the statement of `lui`
lui_reads : (a n : ℕ) → n < 2 ^ 16 → instruction_statement (instr.LoadUpper 0 0) (Register a ∷ Plain (Number (pos n)) ∷ []) ≡ Ok (Instruction (instr.LoadUpper a n))
unfolding instruction_statement with_operands
lui_reads a n h = rw (natural_in_range 16 0 65535 n (omega arith)) refl

-- the statement of loads
load_reads : (op : LoadOp) (a base n : ℕ) → n < 2 ^ 16 → instruction_statement (instr.Load op 0 0 0) (Register a ∷ Based (signed_half n) base ∷ []) ≡ Ok (Instruction (instr.Load op a base n))
unfolding instruction_statement with_operands
load_reads op a base n h = rw (half_in_range n h) refl

-- the statement of stores
store_reads : (op : StoreOp) (a base n : ℕ) → n < 2 ^ 16 → instruction_statement (instr.Store op 0 0 0) (Register a ∷ Based (signed_half n) base ∷ []) ≡ Ok (Instruction (instr.Store op a base n))
unfolding instruction_statement with_operands
store_reads op a base n h = rw (half_in_range n h) refl

-- the statement of cache operations and prefetches
cache_reads : (op : CacheOp) (hint base n : ℕ) → hint < 32 → n < 2 ^ 16 → instruction_statement (instr.Cache op 0 0 0) (Plain (Number (pos hint)) ∷ Based (signed_half n) base ∷ []) ≡ Ok (Instruction (instr.Cache op hint base n))
unfolding instruction_statement with_operands
cache_reads op hint base n k h = rw (natural_in_range 32 0 31 hint (omega arith), half_in_range n h) refl

-- the statement of branches on two registers
branch_reads : (op : BranchOp) (a b t : ℕ) → instruction_statement (instr.Branch op 0 0 0) (Register a ∷ Register b ∷ Plain (Number (pos t)) ∷ []) ≡ Ok (Transfer (instr.Branch op a b 0) (Number (pos t)))
unfolding instruction_statement with_operands
branch_reads op a b t = refl

-- the statement of branches on one register
branch_zero_reads : (op : BranchZeroOp) (a t : ℕ) → instruction_statement (instr.BranchZero op 0 0) (Register a ∷ Plain (Number (pos t)) ∷ []) ≡ Ok (Transfer (instr.BranchZero op a 0) (Number (pos t)))
unfolding instruction_statement with_operands
branch_zero_reads op a t = refl

-- the statement of jumps
jump_reads : (op : JumpOp) (t : ℕ) → instruction_statement (instr.Jump op 0) (Plain (Number (pos t)) ∷ []) ≡ Ok (Transfer (instr.Jump op 0) (Number (pos t)))
unfolding instruction_statement with_operands
jump_reads op t = refl

-- the line of an immediate with its sign
signed_immediate : (op : ImmediateOp) (name : List ℕ) (a b n address : ℕ) → IsName name (instr.Immediate op 0 0 0) → a < 32 → b < 32 → n < 2 ^ 16 → instruction_statement (instr.Immediate op 0 0 0) (Register a ∷ Register b ∷ Plain (Number (signed_half n)) ∷ []) ≡ Ok (Instruction (instr.Immediate op a b n)) → LinePuts (name ++ 32 ∷ ((codes "$" ++ decimal a) ++ 44 ∷ ((codes "$" ++ decimal b) ++ 44 ∷ signed_decimal (signed_half n)))) address (Code (instr.Immediate op a b n))
signed_immediate op name a b n address is ha hb h reads =
    plain_line name _ (instr.Immediate op 0 0 0) (instr.Immediate op a b n) _ address is (three_operands _ _ _ _ _ _ (register_operand a ha) (register_operand b hb) (half_operand n h)) reads

-- the line of an immediate without sign
unsigned_immediate : (op : ImmediateOp) (name : List ℕ) (a b n address : ℕ) → IsName name (instr.Immediate op 0 0 0) → a < 32 → b < 32 → n < 2 ^ 16 → instruction_statement (instr.Immediate op 0 0 0) (Register a ∷ Register b ∷ Plain (Number (pos n)) ∷ []) ≡ Ok (Instruction (instr.Immediate op a b n)) → LinePuts (name ++ 32 ∷ ((codes "$" ++ decimal a) ++ 44 ∷ ((codes "$" ++ decimal b) ++ 44 ∷ operand_text (printed.Half n)))) address (Code (instr.Immediate op a b n))
unsigned_immediate op name a b n address is ha hb h reads =
    plain_line name _ (instr.Immediate op 0 0 0) (instr.Immediate op a b n) _ address is (three_operands _ _ _ _ _ _ (register_operand a ha) (register_operand b hb) (unsigned_operand n h)) reads

-- the statement of `addi`
addi_reads : (a b n : ℕ) → n < 2 ^ 16 → instruction_statement (instr.Immediate Addi 0 0 0) (Register a ∷ Register b ∷ Plain (Number (signed_half n)) ∷ []) ≡ Ok (Instruction (instr.Immediate Addi a b n))
unfolding instruction_statement with_operands
addi_reads a b n h = rw (half_in_range n h) refl

-- the statement of `addiu`
addiu_reads : (a b n : ℕ) → n < 2 ^ 16 → instruction_statement (instr.Immediate Addiu 0 0 0) (Register a ∷ Register b ∷ Plain (Number (signed_half n)) ∷ []) ≡ Ok (Instruction (instr.Immediate Addiu a b n))
unfolding instruction_statement with_operands
addiu_reads a b n h = rw (half_in_range n h) refl

-- the statement of `slti`
slti_reads : (a b n : ℕ) → n < 2 ^ 16 → instruction_statement (instr.Immediate Slti 0 0 0) (Register a ∷ Register b ∷ Plain (Number (signed_half n)) ∷ []) ≡ Ok (Instruction (instr.Immediate Slti a b n))
unfolding instruction_statement with_operands
slti_reads a b n h = rw (half_in_range n h) refl

-- the statement of `sltiu`
sltiu_reads : (a b n : ℕ) → n < 2 ^ 16 → instruction_statement (instr.Immediate Sltiu 0 0 0) (Register a ∷ Register b ∷ Plain (Number (signed_half n)) ∷ []) ≡ Ok (Instruction (instr.Immediate Sltiu a b n))
unfolding instruction_statement with_operands
sltiu_reads a b n h = rw (half_in_range n h) refl

-- the statement of `andi`
andi_reads : (a b n : ℕ) → n < 2 ^ 16 → instruction_statement (instr.Immediate Andi 0 0 0) (Register a ∷ Register b ∷ Plain (Number (pos n)) ∷ []) ≡ Ok (Instruction (instr.Immediate Andi a b n))
unfolding instruction_statement with_operands
andi_reads a b n h = rw (natural_in_range 16 0 65535 n (omega arith)) refl

-- the statement of `ori`
ori_reads : (a b n : ℕ) → n < 2 ^ 16 → instruction_statement (instr.Immediate Ori 0 0 0) (Register a ∷ Register b ∷ Plain (Number (pos n)) ∷ []) ≡ Ok (Instruction (instr.Immediate Ori a b n))
unfolding instruction_statement with_operands
ori_reads a b n h = rw (natural_in_range 16 0 65535 n (omega arith)) refl

-- the statement of `xori`
xori_reads : (a b n : ℕ) → n < 2 ^ 16 → instruction_statement (instr.Immediate Xori 0 0 0) (Register a ∷ Register b ∷ Plain (Number (pos n)) ∷ []) ≡ Ok (Instruction (instr.Immediate Xori a b n))
unfolding instruction_statement with_operands
xori_reads a b n h = rw (natural_in_range 16 0 65535 n (omega arith)) refl

-- the line of an operation with an immediate
immediate_line : (op : ImmediateOp) (a b n address : ℕ) → a < 32 → b < 32 → n < 2 ^ 16 → LinePuts (instr_text (instr.Immediate op a b n) address) address (Code (instr.Immediate op a b n))
immediate_line Addi a b n address ha hb h = signed_immediate Addi (immediate_mnemonic Addi) a b n address (immediate_named Addi) ha hb h (addi_reads a b n h)
immediate_line Addiu a b n address ha hb h = signed_immediate Addiu (immediate_mnemonic Addiu) a b n address (immediate_named Addiu) ha hb h (addiu_reads a b n h)
immediate_line Slti a b n address ha hb h = signed_immediate Slti (immediate_mnemonic Slti) a b n address (immediate_named Slti) ha hb h (slti_reads a b n h)
immediate_line Sltiu a b n address ha hb h = signed_immediate Sltiu (immediate_mnemonic Sltiu) a b n address (immediate_named Sltiu) ha hb h (sltiu_reads a b n h)
immediate_line Andi a b n address ha hb h = unsigned_immediate Andi (immediate_mnemonic Andi) a b n address (immediate_named Andi) ha hb h (andi_reads a b n h)
immediate_line Ori a b n address ha hb h = unsigned_immediate Ori (immediate_mnemonic Ori) a b n address (immediate_named Ori) ha hb h (ori_reads a b n h)
immediate_line Xori a b n address ha hb h = unsigned_immediate Xori (immediate_mnemonic Xori) a b n address (immediate_named Xori) ha hb h (xori_reads a b n h)

-- where a branch on two registers leads
aimed_branch : (op : BranchOp) (a b n address : ℕ) → branch_offset address (branch_target address n) ≡ Ok n → aimed (instr.Branch op a b 0) address (branch_target address n) ≡ Ok (instr.Branch op a b n)
aimed_branch op a b n address is = rw is refl

-- where a branch on one register leads
aimed_branch_zero : (op : BranchZeroOp) (a n address : ℕ) → branch_offset address (branch_target address n) ≡ Ok n → aimed (instr.BranchZero op a 0) address (branch_target address n) ≡ Ok (instr.BranchZero op a n)
aimed_branch_zero op a n address is = rw is refl

-- where a jump leads
aimed_jump : (op : JumpOp) (n address : ℕ) → jump_index address (jump_target address n) ≡ Ok n → aimed (instr.Jump op 0) address (jump_target address n) ≡ Ok (instr.Jump op n)
aimed_jump op n address is = rw is refl

-- the lines of the TLB
tlb_line : (op : TlbOp) (address : ℕ) → LinePuts (tlb_mnemonic op) address (Code (instr.Tlb op))
unfolding item_of line_of body_of label_of statement_or_nothing statement_in statement_with trimmed trimmed_start operation_of operands_in instruction_statement with_operands named_instruction arithmetic_named memory_named control_named hi_lo_named system_named single_named named_register named_conditional_move named_shift named_shift_variable named_count named_move_from named_move_to named_multiply named_divide named_immediate named_load named_store named_cache named_branch named_branch_zero named_jump named_trap named_trap_immediate named_cp0_move named_tlb
tlb_line Tlbr address = (Instruction (instr.Tlb Tlbr), refl, λ names. refl)
tlb_line Tlbwi address = (Instruction (instr.Tlb Tlbwi), refl, λ names. refl)
tlb_line Tlbwr address = (Instruction (instr.Tlb Tlbwr), refl, λ names. refl)
tlb_line Tlbp address = (Instruction (instr.Tlb Tlbp), refl, λ names. refl)

-- the line of `eret`
eret_line : (address : ℕ) → LinePuts (codes "eret") address (Code instr.Eret)
unfolding item_of line_of body_of label_of statement_or_nothing statement_in statement_with trimmed trimmed_start operation_of operands_in instruction_statement with_operands named_instruction arithmetic_named memory_named control_named hi_lo_named system_named single_named named_register named_conditional_move named_shift named_shift_variable named_count named_move_from named_move_to named_multiply named_divide named_immediate named_load named_store named_cache named_branch named_branch_zero named_jump named_trap named_trap_immediate named_cp0_move named_tlb
eret_line address = (Instruction instr.Eret, refl, λ names. refl)

-- the word of an instruction of coprocessor 1 or 2 is a word
small_word : (op : CoprocessorOp) (code : ℕ) → code < 2 ^ 26 → coprocessor_word op code < 2 ^ 32
small_word Cop1 code h = omega arith
small_word Cop2 code h = omega arith
small_word Lwc1 code h = omega arith
small_word Lwc2 code h = omega arith
small_word Ldc1 code h = omega arith
small_word Ldc2 code h = omega arith
small_word Swc1 code h = omega arith
small_word Swc2 code h = omega arith
small_word Sdc1 code h = omega arith
small_word Sdc2 code h = omega arith

-- `.word` is no label
word_label : (more : List ℕ) → label_of (codes ".word" ++ 32 ∷ more) ≡ None
unfolding label_of
word_label more = refl

-- `.word` with a number is that word
word_reads : (n : ℕ) → n < 2 ^ 32 → directive_statement directive.Word (Plain (Number (pos n)) ∷ []) ≡ Ok (Word n)
unfolding directive_statement
word_reads n h = rw (natural_in_range 32 2147483648 4294967295 n (omega arith)) refl

-- `.word` is a directive
word_named : operation_of (codes ".word") ≡ Ok (operation.Directive directive.Word)
unfolding operation_of named_directive
word_named = refl

-- the line of a word
word_form : (text : List ℕ) → list_any is_comma text ≡ false → operand_form (operation.Directive directive.Word) text ≡ Separate
word_form text h = rw h refl

word_line : (n address : ℕ) → n < 2 ^ 32 → LinePuts (codes ".word" ++ 32 ∷ operand_text (printed.Word n)) address (Bytes (to_le_bytes w32 n))
unfolding item_of
word_line n address h =
    (Word n, line_read (codes ".word") (operand_text (printed.Word n)) (operation.Directive directive.Word) (Plain (Number (pos n)) ∷ []) (Word n) (omega arith) refl (word_label (operand_text (printed.Word n))) word_named (word_form (operand_text (printed.Word n)) (none_pass is_comma (operand_text (printed.Word n)) (all_imply is_solid (λ c. not (is_comma c)) solid_no_comma (operand_text (printed.Word n)) (word_operand n h).solid))) (one_operand _ _ (word_operand n h)) (word_reads n h), λ names. refl)

-- each printed line puts its instruction
pub printed_line : (i : Instr) (address : ℕ) → HasFields i → address % 4 ≡ 0 → 0x80000000 ≤ address → address < 0xa0000000 → LinePuts (instr_text i address) address (item_printed i)
printed_line (instr.ThreeRegister op a b c) address has aligned low high =
    plain_line (register_mnemonic op) _ (instr.ThreeRegister op 0 0 0) (instr.ThreeRegister op a b c) _ address (register_named op) (three_operands _ _ _ _ _ _ (register_operand a has.0) (register_operand b has.1) (register_operand c has.2)) (register_reads op a b c)
printed_line (instr.ConditionalMove op a b c) address has aligned low high =
    plain_line (conditional_move_mnemonic op) _ (instr.ConditionalMove op 0 0 0) (instr.ConditionalMove op a b c) _ address (conditional_move_named op) (three_operands _ _ _ _ _ _ (register_operand a has.0) (register_operand b has.1) (register_operand c has.2)) (conditional_move_reads op a b c)
printed_line (instr.ShiftVariable op a b c) address has aligned low high =
    plain_line (shift_variable_mnemonic op) _ (instr.ShiftVariable op 0 0 0) (instr.ShiftVariable op a b c) _ address (shift_variable_named op) (three_operands _ _ _ _ _ _ (register_operand a has.0) (register_operand b has.1) (register_operand c has.2)) (shift_variable_reads op a b c)
printed_line (instr.Multiply op a b) address has aligned low high =
    plain_line (multiply_mnemonic op) _ (instr.Multiply op 0 0) (instr.Multiply op a b) _ address (multiply_named op) (two_operands _ _ _ _ (register_operand a has.0) (register_operand b has.1)) (multiply_reads op a b)
printed_line (instr.Divide op a b) address has aligned low high =
    plain_line (divide_mnemonic op) _ (instr.Divide op 0 0) (instr.Divide op a b) _ address (divide_named op) (two_operands _ _ _ _ (register_operand a has.0) (register_operand b has.1)) (divide_reads op a b)
printed_line (instr.Count op a b) address has aligned low high =
    plain_line (count_mnemonic op) _ (instr.Count op 0 0) (instr.Count op a b) _ address (count_named op) (two_operands _ _ _ _ (register_operand a has.0) (register_operand b has.1)) (count_reads op a b)
printed_line (instr.MoveFrom op a) address has aligned low high =
    plain_line (move_from_mnemonic op) _ (instr.MoveFrom op 0) (instr.MoveFrom op a) _ address (move_from_named op) (one_operand _ _ (register_operand a has)) (move_from_reads op a)
printed_line (instr.MoveTo op a) address has aligned low high =
    plain_line (move_to_mnemonic op) _ (instr.MoveTo op 0) (instr.MoveTo op a) _ address (move_to_named op) (one_operand _ _ (register_operand a has)) (move_to_reads op a)
printed_line (instr.JumpRegister a) address has aligned low high =
    plain_line (codes "jr") _ (instr.JumpRegister 0) (instr.JumpRegister a) _ address jr_named (one_operand _ _ (register_operand a has)) (jr_reads a)
printed_line (instr.JumpLinkRegister a b) address has aligned low high =
    plain_line (codes "jalr") _ (instr.JumpLinkRegister 0 0) (instr.JumpLinkRegister a b) _ address jalr_named (two_operands _ _ _ _ (register_operand a has.0) (register_operand b has.1)) (jalr_reads a b)
printed_line (instr.Shift op a b n) address has aligned low high =
    plain_line (shift_mnemonic op) _ (instr.Shift op 0 0 0) (instr.Shift op a b n) _ address (shift_named op) (three_operands _ _ _ _ _ _ (register_operand a has.0) (register_operand b has.1) (natural_operand n (omega (arith, has.2)))) (shift_reads op a b n has.2)
printed_line (instr.Trap op a b n) address has aligned low high =
    plain_line (trap_mnemonic op) _ (instr.Trap op 0 0 0) (instr.Trap op a b n) _ address (trap_named op) (three_operands _ _ _ _ _ _ (register_operand a has.0) (register_operand b has.1) (natural_operand n (omega (arith, has.2)))) (trap_reads op a b n has.2)
printed_line (instr.Cp0Move op a b n) address has aligned low high =
    plain_line (cp0_move_mnemonic op) _ (instr.Cp0Move op 0 0 0) (instr.Cp0Move op a b n) _ address (cp0_move_named op) (three_operands _ _ _ _ _ _ (register_operand a has.0) (register_operand b has.1) (natural_operand n (omega (arith, has.2)))) (cp0_move_reads op a b n has.2)
printed_line (instr.Syscall n) address has aligned low high =
    plain_line (codes "syscall") _ (instr.Syscall 0) (instr.Syscall n) _ address syscall_named (one_operand _ _ (natural_operand n (omega (arith, has)))) (syscall_reads n has)
printed_line (instr.Break n) address has aligned low high =
    plain_line (codes "break") _ (instr.Break 0) (instr.Break n) _ address break_named (one_operand _ _ (natural_operand n (omega (arith, has)))) (break_reads n has)
printed_line (instr.Sync n) address has aligned low high =
    plain_line (codes "sync") _ (instr.Sync 0) (instr.Sync n) _ address sync_named (one_operand _ _ (natural_operand n (omega (arith, has)))) (sync_reads n has)
printed_line (instr.Wait n) address has aligned low high =
    plain_line (codes "wait") _ (instr.Wait 0) (instr.Wait n) _ address wait_named (one_operand _ _ (natural_operand n (omega (arith, has)))) (wait_reads n has)
printed_line (instr.TrapImmediate op a n) address has aligned low high =
    plain_line (trap_immediate_mnemonic op) _ (instr.TrapImmediate op 0 0) (instr.TrapImmediate op a n) _ address (trap_immediate_named op) (two_operands _ _ _ _ (register_operand a has.0) (half_operand n has.1)) (trap_immediate_reads op a n has.1)
printed_line (instr.LoadUpper a n) address has aligned low high =
    plain_line (codes "lui") _ (instr.LoadUpper 0 0) (instr.LoadUpper a n) _ address lui_named (two_operands _ _ _ _ (register_operand a has.0) (unsigned_operand n has.1)) (lui_reads a n has.1)
printed_line (instr.Load op a base n) address has aligned low high =
    plain_line (load_mnemonic op) _ (instr.Load op 0 0 0) (instr.Load op a base n) _ address (load_named op) (two_operands _ _ _ _ (register_operand a has.0) (offset_operand n base has.2 has.1)) (load_reads op a base n has.2)
printed_line (instr.Store op a base n) address has aligned low high =
    plain_line (store_mnemonic op) _ (instr.Store op 0 0 0) (instr.Store op a base n) _ address (store_named op) (two_operands _ _ _ _ (register_operand a has.0) (offset_operand n base has.2 has.1)) (store_reads op a base n has.2)
printed_line (instr.Cache op hint base n) address has aligned low high =
    plain_line (cache_mnemonic op) _ (instr.Cache op 0 0 0) (instr.Cache op hint base n) _ address (cache_named op) (two_operands _ _ _ _ (natural_operand hint (omega (arith, has.0))) (offset_operand n base has.2 has.1)) (cache_reads op hint base n has.0 has.2)
printed_line (instr.Immediate op a b n) address has aligned low high = immediate_line op a b n address has.0 has.1 has.2
printed_line (instr.Branch op a b n) address has aligned low high =
    aimed_line (branch_mnemonic op) _ (instr.Branch op 0 0 0) (instr.Branch op a b 0) (instr.Branch op a b n) _ address (branch_target address n) (branch_named op) (three_operands _ _ _ _ _ _ (register_operand a has.0) (register_operand b has.1) (word_operand (branch_target address n) (branch_small address n))) (branch_reads op a b (branch_target address n)) (branch_small address n)
    (aimed_branch op a b n address (printed_branch address n aligned low high has.2))
printed_line (instr.BranchZero op a n) address has aligned low high =
    aimed_line (branch_zero_mnemonic op) _ (instr.BranchZero op 0 0) (instr.BranchZero op a 0) (instr.BranchZero op a n) _ address (branch_target address n) (branch_zero_named op) (two_operands _ _ _ _ (register_operand a has.0) (word_operand (branch_target address n) (branch_small address n))) (branch_zero_reads op a (branch_target address n)) (branch_small address n)
    (aimed_branch_zero op a n address (printed_branch address n aligned low high has.1))
printed_line (instr.Jump op n) address has aligned low high =
    aimed_line (jump_mnemonic op) _ (instr.Jump op 0) (instr.Jump op 0) (instr.Jump op n) _ address (jump_target address n) (jump_named op) (one_operand _ _ (word_operand (jump_target address n) (jump_small address n high has))) (jump_reads op (jump_target address n)) (jump_small address n high has)
    (aimed_jump op n address (printed_jump address n aligned low high has))
printed_line (instr.Tlb op) address has aligned low high = tlb_line op address
printed_line instr.Eret address has aligned low high = eret_line address
printed_line (instr.Coprocessor op code) address has aligned low high = word_line (coprocessor_word op code) address (small_word op code has)
