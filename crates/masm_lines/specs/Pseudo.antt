-- Instructions that are written under another name, by the instructions that they stand for.
use Rattle.std.specs.Prelude.{ℕ, ℤ, pos, List, [], ◌∷◌, find, codes, Option, Result, Ok, Err}
use Rattle.std.specs.Str.{bytes_eq}
use Rattle.mips_instr.specs.declared.instr.Instr.{Instr}
use Rattle.mips_instr.specs.declared.instr.Instr.TheVariants as instr
use Rattle.mips_instr.specs.declared.instr.ThreeRegisterOp.TheVariants.{Addu}
use Rattle.mips_instr.specs.declared.instr.ShiftOp.TheVariants.{Sll}
use Rattle.mips_instr.specs.declared.instr.ImmediateOp.TheVariants.{Addiu, Ori}
use Rattle.mips_instr.specs.declared.instr.BranchOp.TheVariants.{Beq, Bne}
use Rattle.masm_lines.specs.Operands.{Number, Written, Register, Plain}
use Rattle.masm_lines.specs.Statements.{Statement, Instruction, Transfer, Load}
use Rattle.masm_lines.specs.Ranges.{signed_half_bits, half_bits, word_bits}
use Rattle.masm_lines.specs.Steps.{◌>>=◌}
use Rattle.masm_lines.specs.declared.fault.AsmFault.{AsmFault}
use Rattle.masm_lines.specs.declared.fault.AsmFault.TheVariants as fault
use Rattle.masm_lines.specs.declared.pseudo.Pseudo.{Pseudo}
use Rattle.masm_lines.specs.declared.pseudo.Pseudo.TheVariants as pseudo

abbrev pub pseudo_name : Pseudo → List ℕ
pseudo_name pseudo.Nop = codes "nop"
pseudo_name pseudo.Move = codes "move"
pseudo_name pseudo.Branch = codes "b"
pseudo_name pseudo.BranchEqualZero = codes "beqz"
pseudo_name pseudo.BranchNotZero = codes "bnez"
pseudo_name pseudo.LoadImmediate = codes "li"
pseudo_name pseudo.LoadAddress = codes "la"

abbrev pub pseudos : List Pseudo
pseudos = pseudo.Nop ∷ pseudo.Move ∷ pseudo.Branch ∷ pseudo.BranchEqualZero ∷ pseudo.BranchNotZero ∷ pseudo.LoadImmediate ∷ pseudo.LoadAddress ∷ []

unfoldable pub named_pseudo : List ℕ → Option Pseudo
named_pseudo name = find (λ p. bytes_eq (pseudo_name p) name) pseudos

-- a branch to an operand that is a number or a name
abbrev pub branch_to : Instr → Written → Result Statement AsmFault
branch_to i (Plain value) = Ok (Transfer i value)
branch_to i w = Err fault.Operand

-- the second of two readings, where the first has a fault
abbrev pub or_else : {A : Type 0} → Result A AsmFault → Result A AsmFault → Result A AsmFault
or_else (Ok a) b = Ok a
or_else (Err f) b = b

-- a number in a register: ADDIU of $0 where it is a signed half-word, ORI of $0 where it is one without sign, and else LUI
-- and ORI
abbrev pub immediate_load : ℕ → ℤ → Result Statement AsmFault
immediate_load rt n =
    or_else (signed_half_bits n >>= λ bits. Ok (Instruction (instr.Immediate Addiu rt 0 bits)))
    (or_else (half_bits n >>= λ bits. Ok (Instruction (instr.Immediate Ori rt 0 bits)))
    (word_bits n >>= λ bits. Ok (Load rt (Number (pos bits)))))

-- `nop`: the word 0. `move rd,rs`: addu rd,rs,$0. `b target`: beq $0,$0,target. `beqz rs,target` and `bnez rs,target`: beq and
-- bne of rs and $0. `li rt,number`: above. `la rt,address`: always LUI and ORI, so its size hangs on no address.
unfoldable pub pseudo_statement : Pseudo → List Written → Result Statement AsmFault
pseudo_statement pseudo.Nop [] = Ok (Instruction (instr.Shift Sll 0 0 0))
pseudo_statement pseudo.Move (Register rd ∷ Register rs ∷ []) = Ok (Instruction (instr.ThreeRegister Addu rd rs 0))
pseudo_statement pseudo.Branch (target ∷ []) = branch_to (instr.Branch Beq 0 0 0) target
pseudo_statement pseudo.BranchEqualZero (Register rs ∷ target ∷ []) = branch_to (instr.Branch Beq rs 0 0) target
pseudo_statement pseudo.BranchNotZero (Register rs ∷ target ∷ []) = branch_to (instr.Branch Bne rs 0 0) target
pseudo_statement pseudo.LoadImmediate (Register rt ∷ Plain (Number n) ∷ []) = immediate_load rt n
pseudo_statement pseudo.LoadAddress (Register rt ∷ Plain value ∷ []) = Ok (Load rt value)
pseudo_statement _ _ = Err fault.Operand
