-- When the state of the code is that of the definition, and when an answer of the code is the definition's.
use Rattle.std.specs.Prelude.{◌≡◌, ℕ, Bool, true, false, List, Option, Some, None, Result, Ok, Err, length, MatchOption, ◌+◌, ◌<◌, ◌≤◌, ◌^◌}
use Rattle.std.specs.Cmp.Lexicographic.{slice_cmp}
use Rattle.std.specs.Ordering.{nat_cmp}
use Rattle.std.specs.BTreeMap.{get_by}
use Rattle.masm.specs.Names as names
use Rattle.masm_lines.specs.Statements.{Statement, Instruction, Transfer, Word, AddressOf}
use Rattle.masm_lines.specs.Grammar.{Line, line_of}
use Rattle.masm_lines.specs.Statements.{size_of}
use Rattle.masm.specs.Assembly.{Reading, Located}
use Rattle.masm.specs.Listings as listings
use Rattle.masm.specs.Images.{AreBytesOf, AreSegmentsOf}
use Rattle.masm.specs.Views.{layout_view}
use Rattle.masm_lines.specs.declared.fault.AsmFault.{AsmFault}
use Rattle.masm.specs.declared.error.AsmError.{AsmError}
use Rattle.masm.specs.declared.error.AsmError.TheVariants as error
use Rattle.masm.specs.declared.error.LineError.{LineError}
use Rattle.masm.specs.declared.error.LineError.TheVariants as of_line
use Rattle.masm.specs.declared.reading.Names.{Names}
use Rattle.masm.specs.declared.reading.Reading.{Reading as ReadingCode}
use Rattle.masm.specs.declared.output.Output.{Output}

-- the map has the address of each name
abbrev pub Knows : Names → names.Names → Type 0
Knows map known = (name : List ℕ) → get_by (λ key. slice_cmp nat_cmp name key.items) map.entries ≡ names.address_of known name

pub record IsReading (code : ReadingCode) (reading : Reading) : Type 0 where
  pub names : Knows code.names reading.names
  pub layout : layout_view code.layout ≡ reading.layout

pub record IsOutput (code : Output) (output : listings.Output) : Type 0 where
  pub earlier : AreSegmentsOf output.earlier code.earlier.items
  pub address : code.address ≡ output.current.address
  pub bytes : AreBytesOf code.bytes.items output.current.items
  pub entry : code.entry ≡ output.entry

-- what a step over a line left and answered is what the definition's step gives, unless memory was refused
abbrev pub Follows : {A : Type 0} → (A → Type 0) → Result Unit LineError → Result A AsmFault → Type 0
Follows Is (Ok done) (Ok next) = Is next
Follows Is (Ok done) (Err f) = ⊥
Follows Is (Err (of_line.Fault f)) step = step ≡ Err f
Follows Is (Err (of_line.Memory a)) step = Unit {0}

-- what a text's reading answered is what the definition gives, unless memory was refused
abbrev pub Gives : {A B : Type 0} → (B → A → Type 0) → Result B AsmError → Located A → Type 0
Gives Is (Ok b) (Ok a) = Is b a
Gives Is (Ok b) (Err f) = ⊥
Gives Is (Err (error.Fault f line)) found = found ≡ Err (f, line)
Gives Is (Err (error.Memory a)) found = Unit {0}

-- the fault of an error that isn't want of memory, with its line
abbrev pub fault_in : AsmError → Option (AsmFault × ℕ)
fault_in (error.Fault f line) = Some (f, line)
fault_in (error.Memory a) = None

-- a statement that puts one word
abbrev pub is_word : Statement → Bool
is_word (Instruction i) = true
is_word (Transfer i value) = true
is_word (Word n) = true
is_word (AddressOf name) = true
is_word s = false

-- what is put so far lies below 2^32, and a statement may stand behind it as the first pass has found
abbrev pub HasRoomFor : Output → Statement → Type 0
HasRoomFor code s =
    (length code.bytes.items < 2 ^ 32)
    × (0 < size_of s → (0x80000000 ≤ code.address) × (code.address + length code.bytes.items + size_of s ≤ 0xa0000000))

-- the same of a line
abbrev pub HasRoomForLine : Output → Result Line AsmFault → Type 0
HasRoomForLine code (Err f) = Unit {0}
HasRoomForLine code (Ok line) = MatchOption line.statement (Unit {0}) (HasRoomFor code)

abbrev pub HasRoom : Output → List ℕ → Type 0
HasRoom code text = HasRoomForLine code (line_of text)
