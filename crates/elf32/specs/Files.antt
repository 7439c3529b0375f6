-- Which image an ELF32 file stands for, and the file that is written for an image (System V ABI, Object Files).
use Rattle.std.specs.Prelude.{◌≡◌, ℕ, ◌+◌, ◌*◌, ◌^◌, ◌<◌, ◌≤◌, Some, None, List, [], ◌∷◌, ◌++◌, length, map, All}
use Rattle.std.specs.List.{flat_map}
use Rattle.std.specs.Int.{to_le_bytes, w16, w32}
use Rattle.elf32.specs.declared.image.Image.{Image}
use Rattle.elf32.specs.declared.image.Segment.{Segment}
use Rattle.elf32.specs.declared.fault.ElfError.{ElfError}
use Rattle.elf32.specs.declared.fault.ElfError.TheVariants as error
use Rattle.elf32.specs.Headers.{file_header, loaded, segment_of, shown, ranges_shown}
use Rattle.elf32.specs.Faults.{identification, first_fault, first_fault_of, range_faults}

-- the file has no fault, and the image has its entry and its loaded segments, in the order of their headers
pub record StandsFor (file : List ℕ) (pages : ℕ) (image : Image) : Type 0 where
  pub sound : first_fault file pages ≡ None
  pub entry : image.entry ≡ (file_header file).entry
  pub segments : map shown image.segments.items ≡ map (segment_of file) (loaded file)

-- the file is refused for its first fault, or memory was wanted
abbrev pub IsRefusal : List ℕ → ℕ → ElfError → Type 0
IsRefusal file pages (error.Fault fault) = first_fault file pages ≡ Some fault
IsRefusal file pages error.Memory = Unit {0}

-- a half-word and a word, lowest byte first; of a greater number its lowest bytes
abbrev pub half : ℕ → List ℕ
half number = to_le_bytes w16 number

abbrev pub word : ℕ → List ℕ
word number = to_le_bytes w32 number

-- the ELF header of a written file: e_ident, e_type, e_machine, e_version, e_entry, e_phoff, e_shoff, e_flags, e_ehsize,
-- e_phentsize, e_phnum, e_shentsize, e_shnum and e_shstrndx
unfoldable pub header_bytes : ℕ → ℕ → List ℕ
header_bytes entry entries =
    identification ++ (0 ∷ 0 ∷ 0 ∷ 0 ∷ 0 ∷ 0 ∷ 0 ∷ 0 ∷ 0 ∷ [])
    ++ half 2 ++ half 8 ++ word 1 ++ word entry ++ word 52 ++ word 0 ++ word 0
    ++ half 52 ++ half 32 ++ half entries ++ half 0 ++ half 0 ++ half 0

-- the program header of a segment whose bytes begin at an offset: p_type, p_offset, p_vaddr, p_paddr, p_filesz, p_memsz,
-- p_flags and p_align
unfoldable pub program_header_bytes : ℕ → Segment → List ℕ
program_header_bytes offset s =
    word 1 ++ word offset ++ word s.address ++ word 0
    ++ word (length s.bytes.items) ++ word s.size ++ word 0 ++ word 0

-- the program headers of segments whose bytes stand one after the other from an offset on
abbrev pub table_bytes : ℕ → List Segment → List ℕ
table_bytes offset [] = []
table_bytes offset (s ∷ ss) = program_header_bytes offset s ++ table_bytes (offset + length s.bytes.items) ss

-- the bytes of the segments, one after the other
abbrev pub contents : List Segment → List ℕ
contents = flat_map (λ s. s.bytes.items)

-- the file that is written for an image: the ELF header, the program headers and the segments' bytes. A number that a
-- field can't hold has its lowest bytes there
abbrev pub file_of : Image → List ℕ
file_of image =
    let segments = image.segments.items in
    let count = length segments in
    header_bytes image.entry count ++ table_bytes (52 + 32 * count) segments ++ contents segments

-- a segment takes memory, and at least as much as it has bytes
pub record IsSized (s : Segment) : Type 0 where
  pub some : 0 < s.size
  pub bytes : length s.bytes.items ≤ s.size

-- an image that a file can stand for, in a memory that ends within the addresses of 32 bits: its segments and its entry
-- have no fault
pub record IsLoadable (pages : ℕ) (image : Image) : Type 0 where
  pub memory : 0x80000000 + 4096 * pages ≤ 2 ^ 32
  pub count : length image.segments.items ≤ 64
  pub sized : All IsSized image.segments.items
  pub sound : first_fault_of (range_faults pages image.entry (ranges_shown image)) ≡ None
