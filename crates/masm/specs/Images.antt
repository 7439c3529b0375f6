-- Images that stand for listings.
use Rattle.std.specs.Prelude.{◌≡◌, ℕ, List, [], ◌∷◌, ◌++◌, length}
use Rattle.std.specs.Int.{to_le_bytes, w32}
use Rattle.mips_isa.specs.Table.{readings}
use Rattle.elf32.specs.declared.image.Segment.{Segment}
use Rattle.elf32.specs.declared.image.Image.{Image}
use Rattle.masm.specs.Meanings.{Content, Code, Pair, Bytes}
use Rattle.masm.specs.Listings.{Part, Listing}

-- the bytes of an item: those of a word that decodes to the instruction, or the bytes themselves
abbrev pub StandFor : List ℕ → Content → Type 0
StandFor bytes (Code i) = (w : ℕ) × (bytes ≡ to_le_bytes w32 w) × (readings w ≡ i ∷ [])
StandFor bytes (Pair i j) =
    (v : ℕ) × (w : ℕ) × (bytes ≡ to_le_bytes w32 v ++ to_le_bytes w32 w) × (readings v ≡ i ∷ []) × (readings w ≡ j ∷ [])
StandFor bytes (Bytes written) = bytes ≡ written

-- the bytes of items, one after the other
abbrev pub AreBytesOf : List ℕ → List Content → Type 0
AreBytesOf bytes [] = bytes ≡ []
AreBytesOf bytes (item ∷ items) = (first : List ℕ) × (more : List ℕ) × (bytes ≡ first ++ more) × StandFor first item × AreBytesOf more items

pub record IsSegmentOf (part : Part) (segment : Segment) : Type 0 where
  pub address : segment.address ≡ part.address
  pub bytes : AreBytesOf segment.bytes.items part.items
  -- all of its bytes are the file's
  pub size : segment.size ≡ length segment.bytes.items

abbrev pub AreSegmentsOf : List Part → List Segment → Type 0
AreSegmentsOf [] [] = Unit {0}
AreSegmentsOf (part ∷ parts) (segment ∷ segments) = IsSegmentOf part segment × AreSegmentsOf parts segments
AreSegmentsOf [] (segment ∷ segments) = ⊥
AreSegmentsOf (part ∷ parts) [] = ⊥

-- memory at each listed address holds the listed instruction or byte, and the program starts at the listing's entry
pub record IsImageOf (listing : Listing) (image : Image) : Type 0 where
  pub segments : AreSegmentsOf listing.parts image.segments.items
  pub entry : image.entry ≡ listing.entry
