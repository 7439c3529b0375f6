-- Segments as lines of assembly language: those of an image, of a file, and of a text.
use Rattle.std.specs.Prelude.{◌≡◌, ℕ, ◌+◌, ◌/◌, ◌%◌, ◌^◌, List, [], ◌∷◌, ◌++◌, codes, flat_map}
use Rattle.std.specs.Int.{from_le_bytes, w32}
use Rattle.mips_isa.specs.Table.{readings}
use Rattle.mips_instr.specs.Operands.{hex_byte}
use Rattle.mips_instr.specs.Text.{instr_text}
use Rattle.mips_instr.specs.declared.instr.Instr.{Instr}
use Rattle.elf32.specs.Files.{StandsFor}
use Rattle.elf32.specs.declared.image.Image.{Image}
use Rattle.elf32.specs.declared.image.Segment.{Segment}
use Rattle.masm.specs.Assembly.{Means}
use Rattle.masm.specs.Images.{IsImageOf}
use Rattle.masm.specs.Listings.{Listing}

-- the eight digits of a word
abbrev pub hex_word : ℕ → List ℕ
hex_word n = hex_byte (n / 2 ^ 24) ++ hex_byte (n / 2 ^ 16 % 2 ^ 8) ++ hex_byte (n / 2 ^ 8 % 2 ^ 8) ++ hex_byte (n % 2 ^ 8)

-- the instruction that a word encodes, or the word where it encodes none
abbrev pub word_text : List Instr → ℕ → ℕ → List ℕ
word_text [] address word = codes ".word 0x" ++ hex_word word
word_text (i ∷ more) address word = instr_text i address

unfoldable pub word_line : ℕ → ℕ → List ℕ
word_line address word = hex_word address ++ codes " " ++ hex_word word ++ codes " " ++ word_text (readings word) address word ++ codes "\n"

unfoldable pub byte_line : ℕ → ℕ → List ℕ
byte_line address byte = hex_word address ++ codes " " ++ hex_byte byte ++ codes " .byte 0x" ++ hex_byte byte ++ codes "\n"

-- a line for each whole word from an address on, and one for each byte behind the last of them
abbrev pub lines_at : ℕ → List ℕ → List ℕ
lines_at address (a ∷ b ∷ c ∷ d ∷ more) = word_line (address % 2 ^ 32) (from_le_bytes w32 (a ∷ b ∷ c ∷ d ∷ [])) ++ lines_at (address + 4) more
lines_at address (a ∷ more) = byte_line (address % 2 ^ 32) a ++ lines_at (address + 1) more
lines_at address [] = []

abbrev pub segment_lines : Segment → List ℕ
segment_lines s = lines_at s.address s.bytes.items

abbrev pub image_lines : List Segment → List ℕ
image_lines segments = flat_map segment_lines segments

-- the lines are those of the image that a file stands for, for the 131072 pages that kseg0 reaches
pub record IsDisassemblyOf (file lines : List ℕ) : Type 0 where
  pub image : Image
  pub stands : StandsFor file 131072 image
  pub whole : lines ≡ image_lines image.segments.items

-- the lines are those of an image of the listing that a text means
pub record IsListingOf (text lines : List ℕ) : Type 0 where
  pub listing : Listing
  pub image : Image
  pub means : Means text listing
  pub assembled : IsImageOf listing image
  pub whole : lines ≡ image_lines image.segments.items
