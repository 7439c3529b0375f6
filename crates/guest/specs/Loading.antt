-- The pages that an image has bytes for, and those bytes.
use Rattle.std.specs.Prelude.{◌≡◌, ℕ, ◌+◌, ◌-◌, ◌*◌, ◌<◌, Bool, false, nat_lt, IsTrue, All, Any, List, max, min}
use Rattle.elf32.specs.declared.image.Segment.{Segment}
use Rattle.elf32.specs.declared.image.Image.{Image}
use Rattle.elf32.specs.Images.{FitsPages}
use Rattle.machine.specs.Board.{page_bytes}
use Rattle.machine.specs.Boot.{boot_memory}

-- a segment reaches a page, by its bytes or by the zeros after them
abbrev pub segment_reaches : ℕ → Segment → Bool
segment_reaches p s = nat_lt (max (s.address - 0x80000000) (p * 4096)) (min (s.address - 0x80000000 + s.size) (p * 4096 + 4096))

-- a segment of an image reaches a page
abbrev pub Reaches : Image → ℕ → Type 0
Reaches image p = Any (λ s. IsTrue (segment_reaches p s)) image.segments.items

-- no segment of an image reaches a page
abbrev pub IsBeside : Image → ℕ → Type 0
IsBeside image p = All (λ s. segment_reaches p s ≡ false) image.segments.items

-- the bytes of a page once the image is booted, in a memory of any size that holds both
abbrev pub IsBootPage : Image → ℕ → List ℕ → Type 0
IsBootPage image p bytes = (pages : ℕ) → p < pages → FitsPages image pages → bytes ≡ page_bytes p (boot_memory image pages)
