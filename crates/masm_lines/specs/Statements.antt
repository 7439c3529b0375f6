-- Statements: what a line puts, in which names still stand for addresses.
use Rattle.std.specs.Prelude.{ℕ, ◌*◌, List, length}
use Rattle.mips_instr.specs.declared.instr.Instr.{Instr}
use Rattle.masm_lines.specs.Operands.{Value}

pub data Statement : Type 0 where
  -- an instruction without a target
  Instruction : Instr → Statement
  -- a branch or a jump, whose target is still 0, and where it is to lead
  Transfer : Instr → Value → Statement
  -- a number or an address in a register, by LUI and ORI
  Load : ℕ → Value → Statement
  -- a word, and one that is the address of a name
  Word : ℕ → Statement
  AddressOf : List ℕ → Statement
  -- words one behind the other, each a number or the address of a name
  Words : List Value → Statement
  -- a byte
  Byte : ℕ → Statement
  -- bytes one behind the other, the first of which stands at a multiple of a number
  Data : ℕ → List ℕ → Statement
  -- zeros, this many
  Space : ℕ → Statement
  -- a new segment at this address
  Org : ℕ → Statement
  -- the name of the entry
  Entry : List ℕ → Statement

-- how many bytes a statement puts at its place
abbrev pub size_of : Statement → ℕ
size_of (Instruction i) = 4
size_of (Transfer i value) = 4
size_of (Load rt value) = 8
size_of (Word n) = 4
size_of (AddressOf name) = 4
size_of (Words values) = length values * 4
size_of (Byte n) = 1
size_of (Data alignment bytes) = length bytes
size_of (Space n) = n
size_of (Org n) = 0
size_of (Entry name) = 0

-- instructions and words stand at multiples of 4
abbrev pub alignment_of : Statement → ℕ
alignment_of (Instruction i) = 4
alignment_of (Transfer i value) = 4
alignment_of (Load rt value) = 4
alignment_of (Word n) = 4
alignment_of (AddressOf name) = 4
alignment_of (Words values) = 4
alignment_of (Data alignment bytes) = alignment
alignment_of _ = 1
