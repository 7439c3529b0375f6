-- The headers of a little-endian ELF32 file and the segments that they name (System V ABI, Object Files: ELF Header,
-- Program Header, and Program Loading).
use Rattle.std.specs.Prelude.{ℕ, ◌+◌, ◌*◌, Bool, ◌==◌, ◌&&◌, not, List, take, drop, map}
use Rattle.std.specs.List.{filter, range_with_len}
use Rattle.word32.specs.Words.{half_in, word_in}
use Rattle.elf32.specs.declared.image.Image.{Image}
use Rattle.elf32.specs.declared.image.Segment.{Segment}
use Rattle.elf32.specs.declared.header.FileHeader.{FileHeader}
use Rattle.elf32.specs.declared.header.ProgramHeader.{ProgramHeader}
use Rattle.elf32.specs.declared.range.AddressRange.{AddressRange}

-- the ELF header: each field at its offset
unfoldable pub file_header : List ℕ → FileHeader
file_header file = record {
  kind = half_in file 16;
  machine = half_in file 18;
  version = word_in file 20;
  entry = word_in file 24;
  table = word_in file 28;
  header_size = half_in file 40;
  entry_size = half_in file 42;
  entries = half_in file 44;
}

-- the program header that begins at a place of the file: each field at its offset from there
unfoldable pub program_header : List ℕ → ℕ → ProgramHeader
program_header file place = record {
  kind = word_in file place;
  offset = word_in file (place + 4);
  address = word_in file (place + 8);
  file_size = word_in file (place + 16);
  memory_size = word_in file (place + 20);
}

-- the table: as many program headers as the ELF header says, 32 bytes each, from the place that it says
abbrev pub program_headers : List ℕ → List ProgramHeader
program_headers file =
    let header = file_header file in
    map (λ k. program_header file (header.table + 32 * k)) (range_with_len 0 header.entries)

-- PT_LOAD
abbrev pub is_loadable : ProgramHeader → Bool
is_loadable h = h.kind == 1

-- one that takes memory
abbrev pub is_loaded : ProgramHeader → Bool
is_loaded h = is_loadable h && not (h.memory_size == 0)

-- the program headers whose segments are loaded, in their order
abbrev pub loaded : List ℕ → List ProgramHeader
loaded file = filter is_loaded (program_headers file)

-- the addresses of a segment
abbrev pub range_of : ProgramHeader → AddressRange
range_of h = record { address = h.address; size = h.memory_size }

abbrev pub ranges : List ℕ → List AddressRange
ranges file = map range_of (loaded file)

-- a segment: where it is loaded, the bytes that the file has of it, and how many bytes of memory it takes
pub record LoadedSegment : Type 0 where
  pub address : ℕ
  pub bytes : List ℕ
  pub size : ℕ

-- the segment of a program header
abbrev pub segment_of : List ℕ → ProgramHeader → LoadedSegment
segment_of file h = record { address = h.address; bytes = take h.file_size (drop h.offset file); size = h.memory_size }

-- what an image's segment shows
abbrev pub shown : Segment → LoadedSegment
shown s = record { address = s.address; bytes = s.bytes.items; size = s.size }

-- the addresses of an image's segments
abbrev pub range_shown : Segment → AddressRange
range_shown s = record { address = s.address; size = s.size }

abbrev pub ranges_shown : Image → List AddressRange
ranges_shown image = map range_shown image.segments.items
