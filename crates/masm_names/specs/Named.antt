-- Instructions are found by the names by which they are printed.
use Rattle.std.specs.Prelude.{◌≡◌, List, [], ◌∷◌, Some}
use Rattle.mips_isa.specs.Fields.{fields}
use Rattle.mips_isa.specs.Table.{Row}
use Rattle.mips_instr.specs.Mnemonics.{mnemonic}
use Rattle.mips_instr.specs.declared.instr.Instr.{Instr}
use Rattle.mips_instr.specs.declared.instr.Instr.TheVariants as instr
use Rattle.masm_names.specs.Mnemonics.{named_instruction}

-- an instruction is found by the name by which it is printed; those of coprocessors 1 and 2 are printed as words
abbrev pub IsNamed : Instr → Type 0
IsNamed (instr.Coprocessor op code) = Unit {0}
IsNamed i = named_instruction (mnemonic i) ≡ Some i

-- what each row of the instruction table means where its fields are 0
abbrev pub AreNamed : List Row → Type 0
AreNamed [] = Unit {0}
AreNamed (row ∷ rows) = IsNamed (row.means (fields 0)) × AreNamed rows
