-- Instructions as lines of assembly language: the name, a blank, and the operands with commas and no blanks between them.
use Rattle.std.specs.Prelude.{ℕ, List, ◌++◌, codes}
use Rattle.mips_instr.specs.Mnemonics.{mnemonic}
use Rattle.mips_instr.specs.Operands.{operands, operand_text}
use Rattle.mips_instr.specs.declared.instr.Instr.{Instr}
use Rattle.mips_instr.specs.declared.operand.Operands.{Operands}
use Rattle.mips_instr.specs.declared.operand.Operands.TheVariants.{None, One, Two, Three}

abbrev pub with_blank : List ℕ → List ℕ → List ℕ
with_blank first more = first ++ (codes " " ++ more)

abbrev pub with_comma : List ℕ → List ℕ → List ℕ
with_comma first more = first ++ (codes "," ++ more)

abbrev pub line : List ℕ → Operands → List ℕ
line name None = name
line name (One a) = with_blank name (operand_text a)
line name (Two a b) = with_blank name (with_comma (operand_text a) (operand_text b))
line name (Three a b c) = with_blank name (with_comma (operand_text a) (with_comma (operand_text b) (operand_text c)))

-- an instruction that stands at an address
abbrev pub instr_text : Instr → ℕ → List ℕ
instr_text i address = line (mnemonic i) (operands i address)
