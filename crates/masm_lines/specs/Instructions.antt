-- Instructions with the operands that a source writes. The forms of the operands are those in which they are printed
-- (`mips_isa`).
use Rattle.std.specs.Prelude.{ℕ, Bool, true, false, if◌then◌else◌, List, [], ◌∷◌, Option, Some, None, Result, Ok}
use Rattle.mips_instr.specs.Operands.{operands}
use Rattle.mips_instr.specs.declared.instr.Instr.{Instr}
use Rattle.mips_instr.specs.declared.instr.Instr.TheVariants as instr
use Rattle.mips_instr.specs.declared.instr.ImmediateOp.{ImmediateOp}
use Rattle.mips_instr.specs.declared.instr.ImmediateOp.TheVariants.{Addi, Addiu, Slti, Sltiu, Andi, Ori, Xori}
use Rattle.mips_instr.specs.declared.operand.Operand.{Operand}
use Rattle.mips_instr.specs.declared.operand.Operand.TheVariants as printed
use Rattle.mips_instr.specs.declared.operand.Operands.{Operands}
use Rattle.mips_instr.specs.declared.operand.Operands.TheVariants.{None as Nothing, One, Two, Three}
use Rattle.masm_lines.specs.Operands.{Value, Number, Written, Register, Plain, Based, register_at, number_at, value_written}
use Rattle.masm_lines.specs.Ranges.{field_bits, signed_half_bits, half_bits}
use Rattle.masm_lines.specs.Steps.{◌>>=◌}
use Rattle.masm_lines.specs.declared.fault.AsmFault.{AsmFault}

-- whether an operand is written in the form in which it is printed; where an address is printed, a name may stand too
abbrev pub has_form : Operand → Written → Bool
has_form (printed.Register _) (Register _) = true
has_form (printed.Number _) (Plain (Number _)) = true
has_form (printed.Half _) (Plain (Number _)) = true
has_form (printed.Word _) (Plain _) = true
has_form (printed.Based _ _) (Based _ _) = true
has_form _ _ = false

abbrev pub have_forms : Operands → List Written → Bool
have_forms Nothing [] = true
have_forms (One a) (x ∷ []) = has_form a x
have_forms (Two a b) (x ∷ y ∷ []) = if has_form a x then has_form b y else false
have_forms (Three a b c) (x ∷ y ∷ z ∷ []) = if has_form a x then (if has_form b y then has_form c z else false) else false
have_forms _ _ = false

-- an instruction's operands are of its forms
abbrev pub is_well_formed : Instr → List Written → Bool
is_well_formed blank written = have_forms (operands blank 0) written

-- an immediate is an unsigned half-word to the bitwise operations, and a signed one to the others
abbrev pub immediate_bits : ImmediateOp → List Written → Result ℕ AsmFault
immediate_bits Addi written = signed_half_bits (number_at written 2)
immediate_bits Addiu written = signed_half_bits (number_at written 2)
immediate_bits Slti written = signed_half_bits (number_at written 2)
immediate_bits Sltiu written = signed_half_bits (number_at written 2)
immediate_bits Andi written = half_bits (number_at written 2)
immediate_bits Ori written = half_bits (number_at written 2)
immediate_bits Xori written = half_bits (number_at written 2)

-- the instruction with the operands that are written, each of which has its form, or the fault that a number is out of
-- its range. A target is left 0.
unfoldable pub with_operands : Instr → List Written → Result Instr AsmFault
with_operands (instr.ThreeRegister op _ _ _) w = Ok (instr.ThreeRegister op (register_at w 0) (register_at w 1) (register_at w 2))
with_operands (instr.ConditionalMove op _ _ _) w = Ok (instr.ConditionalMove op (register_at w 0) (register_at w 1) (register_at w 2))
with_operands (instr.Shift op _ _ _) w = field_bits 31 (number_at w 2) >>= λ sa. Ok (instr.Shift op (register_at w 0) (register_at w 1) sa)
with_operands (instr.ShiftVariable op _ _ _) w = Ok (instr.ShiftVariable op (register_at w 0) (register_at w 1) (register_at w 2))
with_operands (instr.MoveFrom op _) w = Ok (instr.MoveFrom op (register_at w 0))
with_operands (instr.MoveTo op _) w = Ok (instr.MoveTo op (register_at w 0))
with_operands (instr.Multiply op _ _) w = Ok (instr.Multiply op (register_at w 0) (register_at w 1))
with_operands (instr.Divide op _ _) w = Ok (instr.Divide op (register_at w 0) (register_at w 1))
with_operands (instr.Count op _ _) w = Ok (instr.Count op (register_at w 0) (register_at w 1))
with_operands (instr.Trap op _ _ _) w = field_bits 1023 (number_at w 2) >>= λ code. Ok (instr.Trap op (register_at w 0) (register_at w 1) code)
with_operands (instr.TrapImmediate op _ _) w = signed_half_bits (number_at w 1) >>= λ imm. Ok (instr.TrapImmediate op (register_at w 0) imm)
with_operands (instr.Syscall _) w = field_bits 1048575 (number_at w 0) >>= λ code. Ok (instr.Syscall code)
with_operands (instr.Break _) w = field_bits 1048575 (number_at w 0) >>= λ code. Ok (instr.Break code)
with_operands (instr.Sync _) w = field_bits 31 (number_at w 0) >>= λ stype. Ok (instr.Sync stype)
with_operands (instr.Branch op _ _ _) w = Ok (instr.Branch op (register_at w 0) (register_at w 1) 0)
with_operands (instr.BranchZero op _ _) w = Ok (instr.BranchZero op (register_at w 0) 0)
with_operands (instr.Jump op _) w = Ok (instr.Jump op 0)
with_operands (instr.JumpRegister _) w = Ok (instr.JumpRegister (register_at w 0))
with_operands (instr.JumpLinkRegister _ _) w = Ok (instr.JumpLinkRegister (register_at w 0) (register_at w 1))
with_operands (instr.Immediate op _ _ _) w = immediate_bits op w >>= λ imm. Ok (instr.Immediate op (register_at w 0) (register_at w 1) imm)
with_operands (instr.LoadUpper _ _) w = half_bits (number_at w 1) >>= λ imm. Ok (instr.LoadUpper (register_at w 0) imm)
with_operands (instr.Load op _ _ _) w = signed_half_bits (number_at w 1) >>= λ offset. Ok (instr.Load op (register_at w 0) (register_at w 1) offset)
with_operands (instr.Store op _ _ _) w = signed_half_bits (number_at w 1) >>= λ offset. Ok (instr.Store op (register_at w 0) (register_at w 1) offset)
with_operands (instr.Cache op _ _ _) w =
    field_bits 31 (number_at w 0) >>= λ hint. signed_half_bits (number_at w 1) >>= λ offset. Ok (instr.Cache op hint (register_at w 1) offset)
with_operands (instr.Cp0Move op _ _ _) w = field_bits 7 (number_at w 2) >>= λ select. Ok (instr.Cp0Move op (register_at w 0) (register_at w 1) select)
with_operands (instr.Tlb op) w = Ok (instr.Tlb op)
with_operands instr.Eret w = Ok instr.Eret
with_operands (instr.Wait _) w = field_bits 524287 (number_at w 0) >>= λ code. Ok (instr.Wait code)
with_operands (instr.Coprocessor op code) w = Ok (instr.Coprocessor op code)

-- where a branch or a jump leads, as it is written; the other instructions have no target
abbrev pub written_target : Instr → List Written → Option Value
written_target (instr.Branch op rs rt offset) w = Some (value_written w 2)
written_target (instr.BranchZero op rs offset) w = Some (value_written w 1)
written_target (instr.Jump op target) w = Some (value_written w 0)
written_target i w = None
