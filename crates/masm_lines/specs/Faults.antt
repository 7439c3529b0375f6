-- The numbers and the texts of the faults.
use Rattle.std.specs.Prelude.{ℕ, List, codes}
use Rattle.masm_lines.specs.declared.fault.AsmFault.{AsmFault}
use Rattle.masm_lines.specs.declared.fault.AsmFault.TheVariants.{Syntax, Mnemonic, Operand, Range, UnknownName, DoubleName, Place, Empty, Entry}

abbrev pub fault_number : AsmFault → ℕ
fault_number Syntax = 1
fault_number Mnemonic = 2
fault_number Operand = 3
fault_number Range = 4
fault_number UnknownName = 5
fault_number DoubleName = 6
fault_number Place = 7
fault_number Empty = 8
fault_number Entry = 9

-- how a fault is printed
abbrev pub fault_text : AsmFault → List ℕ
fault_text Syntax = codes "syntax"
fault_text Mnemonic = codes "unknown mnemonic"
fault_text Operand = codes "operands"
fault_text Range = codes "number out of range"
fault_text UnknownName = codes "unknown name"
fault_text DoubleName = codes "name given twice"
fault_text Place = codes "place"
fault_text Empty = codes "no content"
fault_text Entry = codes "entry"
