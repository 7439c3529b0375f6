-- Images that a memory holds.
use Rattle.std.specs.Prelude.{ℕ, ◌+◌, ◌*◌, ◌≤◌, length, All}
use Rattle.elf32.specs.declared.image.Segment.{Segment}
use Rattle.elf32.specs.declared.image.Image.{Image}

-- a segment lies within a memory of some bytes, the first of which has the virtual address 80000000
pub record IsWithin (size : ℕ) (s : Segment) : Type 0 where
  pub file_part : length s.bytes.items ≤ s.size
  pub start : 0x80000000 ≤ s.address
  pub end : s.address + s.size ≤ 0x80000000 + size

-- each segment lies within the memory of some pages
abbrev pub FitsPages : Image → ℕ → Type 0
FitsPages image pages = All (IsWithin (pages * 4096)) image.segments.items
