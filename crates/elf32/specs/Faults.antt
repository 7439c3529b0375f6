-- What can be wrong with an ELF32 executable for a MIPS machine with some pages of memory from 80000000 on. Each test is
-- over the whole file.
use Rattle.std.specs.Prelude.{ℕ, ◌+◌, ◌*◌, ◌%◌, Bool, true, false, ◌==◌, ◌&&◌, ◌||◌, not, nat_lt, nat_le, nat_eq, if◌then◌else◌, Option, Some, None, List, [], ◌∷◌, ◌++◌, length}
use Rattle.std.specs.List.{list_any, starts_with}
use Rattle.elf32.specs.declared.fault.Fault.{Fault}
use Rattle.elf32.specs.declared.fault.Fault.TheVariants as fault
use Rattle.elf32.specs.declared.header.FileHeader.{FileHeader}
use Rattle.elf32.specs.declared.header.ProgramHeader.{ProgramHeader}
use Rattle.elf32.specs.declared.range.AddressRange.{AddressRange}
use Rattle.elf32.specs.Headers.{file_header, program_headers, is_loadable, ranges}

abbrev pub number_of : Fault → ℕ
number_of fault.Short = 1
number_of fault.Identification = 2
number_of fault.Header = 3
number_of fault.Table = 4
number_of fault.Empty = 5
number_of fault.Contents = 6
number_of fault.Place = 7
number_of fault.Overlap = 8
number_of fault.Entry = 9

-- it has no whole ELF header
abbrev pub is_short : List ℕ → Bool
is_short file = nat_lt (length file) 52

-- the magic number, ELFCLASS32, ELFDATA2LSB and EV_CURRENT
abbrev pub identification : List ℕ
identification = 0x7f ∷ 0x45 ∷ 0x4c ∷ 0x46 ∷ 1 ∷ 1 ∷ 1 ∷ []

abbrev pub has_wrong_identification : List ℕ → Bool
has_wrong_identification file = not (starts_with nat_eq file identification)

-- not ET_EXEC, not EM_MIPS, not EV_CURRENT, or a header of another size
abbrev pub has_wrong_header : FileHeader → Bool
has_wrong_header h = not (h.kind == 2) || not (h.machine == 8) || not (h.version == 1) || not (h.header_size == 52)

-- program headers of another size, too many of them, or a table that passes the end of the file. A table of none has no
-- bytes that could
abbrev pub has_wrong_table : ℕ → FileHeader → Bool
has_wrong_table size h = not (h.entry_size == 32) || nat_lt 64 h.entries || (not (h.entries == 0) && nat_lt size (h.table + 32 * h.entries))

-- more bytes in the file than in memory, or bytes that pass the end of the file. A segment with none in the file has none
-- that could
abbrev pub has_wrong_contents : ℕ → ProgramHeader → Bool
has_wrong_contents size h = is_loadable h && (nat_lt h.memory_size h.file_size || (not (h.file_size == 0) && nat_lt size (h.offset + h.file_size)))

abbrev pub is_empty : List AddressRange → Bool
is_empty [] = true
is_empty (r ∷ rs) = false

-- not within the memory
abbrev pub is_outside : ℕ → AddressRange → Bool
is_outside pages r = nat_lt r.address 0x80000000 || nat_lt (0x80000000 + 4096 * pages) (r.address + r.size)

-- whether each begins before the other ends: of ranges that aren't empty, whether an address is in both
abbrev pub share_address : AddressRange → AddressRange → Bool
share_address a b = nat_lt a.address (b.address + b.size) && nat_lt b.address (a.address + a.size)

-- some range shares an address with a later one
abbrev pub overlap : List AddressRange → Bool
overlap [] = false
overlap (r ∷ rs) = list_any (share_address r) rs || overlap rs

abbrev pub has_address : ℕ → AddressRange → Bool
has_address address r = nat_le r.address address && nat_lt address (r.address + r.size)

-- not a multiple of 4, or in no range
abbrev pub has_wrong_entry : ℕ → List AddressRange → Bool
has_wrong_entry entry rs = not (entry % 4 == 0) || not (list_any (has_address entry) rs)

-- the first fault of a list whose test is true
abbrev pub first_fault_of : List (Bool × Fault) → Option Fault
first_fault_of [] = None
first_fault_of (f ∷ fs) = if f.0 then Some f.1 else first_fault_of fs

-- the tests of the headers
abbrev pub header_faults : List ℕ → List (Bool × Fault)
header_faults file =
    (is_short file, fault.Short)
    ∷ (has_wrong_identification file, fault.Identification)
    ∷ (has_wrong_header (file_header file), fault.Header)
    ∷ (has_wrong_table (length file) (file_header file), fault.Table)
    ∷ []

-- the tests of the addresses at which segments are loaded, and of the entry
abbrev pub range_faults : ℕ → ℕ → List AddressRange → List (Bool × Fault)
range_faults pages entry rs =
    (is_empty rs, fault.Empty)
    ∷ (list_any (is_outside pages) rs, fault.Place)
    ∷ (overlap rs, fault.Overlap)
    ∷ (has_wrong_entry entry rs, fault.Entry)
    ∷ []

-- the tests of the segments
abbrev pub segment_faults : List ℕ → ℕ → List (Bool × Fault)
segment_faults file pages =
    (list_any (has_wrong_contents (length file)) (program_headers file), fault.Contents)
    ∷ range_faults pages (file_header file).entry (ranges file)

-- all tests, in the order in which a fault is named
abbrev pub faults : List ℕ → ℕ → List (Bool × Fault)
faults file pages = header_faults file ++ segment_faults file pages

abbrev pub first_fault : List ℕ → ℕ → Option Fault
first_fault file pages = first_fault_of (faults file pages)
