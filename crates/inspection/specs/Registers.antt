-- The text of the registers that a dump leaves out, a line each.
use Rattle.std.specs.Prelude.{ℕ, zero, suc, Bool, true, false, List, [], ◌++◌, codes, decimal, length, slice_get, Option, Some, None}
use Rattle.mips_cp0.specs.Access.{register_value}
use Rattle.mips_cp0.specs.Registers.{SystemRegisters}
use Rattle.mips_cp0.specs.declared.register.SystemRegister.TheVariants.{Index, Random, EntryLo0, EntryLo1, Context, PageMask, Wired, Count, EntryHi, Compare, PrId, Config, Config1, ErrorEpc}
use Rattle.mips_tlb.specs.Instructions.{entry_hi_of, entry_lo_of}
use Rattle.mips_tlb.specs.declared.tlb.Entry.{Entry}
use Rattle.machine.specs.Processor.{Processor}
use Rattle.masm.specs.Disassembly.{hex_word}
use Rattle.dump.specs.Dumps.{field_text}

-- a word behind its label, on a line of its own
unfoldable pub line_text : List ℕ → ℕ → List ℕ
line_text label word = label ++ hex_word word ++ codes "\n"

-- a system register by its number and name
unfoldable pub register_text : List ℕ → List ℕ → ℕ → List ℕ
register_text number name word = codes "cp0 " ++ number ++ codes " " ++ name ++ codes " " ++ hex_word word ++ codes "\n"

-- system registers by their numbers and names; a select that isn't 0 stands behind a point
abbrev pub first_text : ℕ → SystemRegisters → List ℕ
first_text lines r =
    register_text (codes "0") (codes "index") (register_value lines Index r) ++ register_text (codes "1") (codes "random") (register_value lines Random r)
    ++ register_text (codes "2") (codes "entrylo0") (register_value lines EntryLo0 r) ++ register_text (codes "3") (codes "entrylo1") (register_value lines EntryLo1 r)

abbrev pub second_text : ℕ → SystemRegisters → List ℕ
second_text lines r =
    register_text (codes "4") (codes "context") (register_value lines Context r) ++ register_text (codes "5") (codes "pagemask") (register_value lines PageMask r)
    ++ register_text (codes "6") (codes "wired") (register_value lines Wired r) ++ register_text (codes "9") (codes "count") (register_value lines Count r)

abbrev pub third_text : ℕ → SystemRegisters → List ℕ
third_text lines r =
    register_text (codes "10") (codes "entryhi") (register_value lines EntryHi r) ++ register_text (codes "11") (codes "compare") (register_value lines Compare r)
    ++ register_text (codes "15") (codes "prid") (register_value lines PrId r)

abbrev pub fourth_text : ℕ → SystemRegisters → List ℕ
fourth_text lines r =
    register_text (codes "16") (codes "config") (register_value lines Config r) ++ register_text (codes "16.1") (codes "config1") (register_value lines Config1 r)
    ++ register_text (codes "30") (codes "errorepc") (register_value lines ErrorEpc r)

abbrev pub system_text : ℕ → SystemRegisters → List ℕ
system_text lines r = first_text lines r ++ second_text lines r ++ third_text lines r ++ fourth_text lines r

-- HI and LO by their names
abbrev pub product_text : Processor → List ℕ
product_text cpu = line_text (codes "hi ") cpu.hi ++ line_text (codes "lo ") cpu.lo

-- whether an SC would store
abbrev pub link_text : Bool → List ℕ
link_text true = codes "llbit 1\n"
link_text false = codes "llbit 0\n"

-- where PC stands in a delay slot, what follows it
abbrev pub slot_text : Option ℕ → List ℕ
slot_text None = codes "slot -\n"
slot_text (Some address) = line_text (codes "slot ") address

unfoldable pub number_text : ℕ → List ℕ
number_text number = codes "tlb " ++ decimal number

-- an entry of the TLB by its number, as TLBR puts it into EntryHi, EntryLo0 and EntryLo1
abbrev pub entry_text : ℕ → Entry → List ℕ
entry_text number entry =
    number_text number ++ field_text (codes " hi ") (entry_hi_of entry) ++ field_text (codes " lo0 ") (entry_lo_of entry.global entry.even)
    ++ field_text (codes " lo1 ") (entry_lo_of entry.global entry.odd) ++ codes "\n"

abbrev pub entry_text_at : ℕ → Option Entry → List ℕ
entry_text_at number None = []
entry_text_at number (Some entry) = entry_text number entry

-- the first entries of the TLB
abbrev pub entries_text : ℕ → List Entry → List ℕ
entries_text zero entries = []
entries_text (suc k) entries = entries_text k entries ++ entry_text_at k (slice_get entries k)

abbrev pub state_text : Processor → List ℕ
state_text cpu = product_text cpu ++ link_text cpu.ll_bit ++ slot_text cpu.slot

-- all that a dump leaves out of a processor, while these interrupt lines are raised
abbrev pub processor_text : ℕ → Processor → List ℕ
processor_text lines cpu =
    system_text lines cpu.cp0 ++ state_text cpu ++ entries_text (length cpu.tlb) cpu.tlb
