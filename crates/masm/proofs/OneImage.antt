-- A listing has one image, and the image has one disassembly.
use Rattle.std.proofs.Common.{◌≡◌, ℕ, List, [], ◌∷◌, ◌++◌, map, flat_map, length, refl, ◌∙◌, sym, ap, subst}
use Rattle.std.specs.Int.{to_le_bytes, w32}
use Rattle.mips_isa.specs.Table.{readings}
use Rattle.mips_instr.specs.declared.instr.Instr.{Instr}
use Rattle.elf32.specs.declared.image.Segment.{Segment}
use Rattle.elf32.specs.declared.image.Image.{Image}
use Rattle.elf32.specs.Headers.{LoadedSegment, shown}
use Rattle.masm.specs.Disassembly.{lines_at, segment_lines, image_lines, IsListingOf, IsDisassemblyOf}
use Rattle.masm.specs.Executables.{IsExecutableOf}
use Rattle.masm.specs.Images.{StandFor, AreBytesOf, IsSegmentOf, AreSegmentsOf, IsImageOf}
use Rattle.masm.specs.Listings.{Part, Listing}
use Rattle.masm.specs.Meanings.{Content, Code, Pair, Bytes}
use Rattle.masm.proofs.MeansWhole.{means_one}

-- no two words encode one instruction
abbrev pub OneWord : Type 0
OneWord = (a b : ℕ) (i : Instr) → readings a ≡ i ∷ [] → readings b ≡ i ∷ [] → a ≡ b

item_bytes : OneWord → (item : Content) (a b : List ℕ) → StandFor a item → StandFor b item → a ≡ b
item_bytes one (Code i) a b h k = h.1 ∙ ap (to_le_bytes w32) (one h.0 k.0 i h.2 k.2) ∙ sym k.1
item_bytes one (Pair i j) a b h k =
    h.2 ∙ ap (λ (bytes : List ℕ). bytes ++ to_le_bytes w32 h.1) (ap (to_le_bytes w32) (one h.0 k.0 i h.3 k.3)) ∙ ap (λ (bytes : List ℕ). to_le_bytes w32 k.0 ++ bytes) (ap (to_le_bytes w32) (one h.1 k.1 j h.4 k.4)) ∙ sym k.2
item_bytes one (Bytes written) a b h k = h ∙ sym k

same_bytes : OneWord → (items : List Content) (a b : List ℕ) → AreBytesOf a items → AreBytesOf b items → a ≡ b
same_bytes one [] a b h k = h ∙ sym k
same_bytes one (item ∷ items) a b h k =
    let first = item_bytes one item h.0 k.0 h.3 k.3 in
    let more = same_bytes one items h.1 k.1 h.4 k.4 in
    h.2 ∙ ap (λ (bytes : List ℕ). bytes ++ h.1) first ∙ ap (λ (bytes : List ℕ). k.0 ++ bytes) more ∙ sym k.2

abbrev loaded_segment : ℕ → List ℕ → ℕ → LoadedSegment
loaded_segment address bytes size = record { address = address; bytes = bytes; size = size }

same_segment : OneWord → (part : Part) (a b : Segment) → IsSegmentOf part a → IsSegmentOf part b → shown a ≡ shown b
same_segment one part a b h k =
    let bytes = same_bytes one part.items a.bytes.items b.bytes.items h.bytes k.bytes in
    let address : a.address ≡ b.address = h.address ∙ sym k.address in
    let size : a.size ≡ b.size = h.size ∙ ap length bytes ∙ sym k.size in
    ap (λ (n : ℕ). loaded_segment n a.bytes.items a.size) address ∙ ap (λ (bytes : List ℕ). loaded_segment b.address bytes a.size) bytes ∙ ap (λ (n : ℕ). loaded_segment b.address b.bytes.items n) size

same_segments : OneWord → (parts : List Part) (xs ys : List Segment) → AreSegmentsOf parts xs → AreSegmentsOf parts ys → map shown xs ≡ map shown ys
same_segments one [] [] [] h k = refl
same_segments one [] [] (b ∷ ys) h k = absurd k
same_segments one [] (a ∷ xs) ys h k = absurd h
same_segments one (p ∷ ps) [] ys h k = absurd h
same_segments one (p ∷ ps) (a ∷ xs) [] h k = absurd k
same_segments one (p ∷ ps) (a ∷ xs) (b ∷ ys) h k =
    ap (λ (s : LoadedSegment). s ∷ map shown xs) (same_segment one p a b h.0 k.0) ∙ ap (λ (ss : List LoadedSegment). shown b ∷ ss) (same_segments one ps xs ys h.1 k.1)

-- an image's segments are those of the listing
pub one_image : OneWord → (listing : Listing) (a b : Image) → IsImageOf listing a → IsImageOf listing b → map shown a.segments.items ≡ map shown b.segments.items
one_image one listing a b h k = same_segments one listing.parts a.segments.items b.segments.items h.segments k.segments

-- and its entry is the listing's
pub one_entry : (listing : Listing) (a b : Image) → IsImageOf listing a → IsImageOf listing b → a.entry ≡ b.entry
one_entry listing a b h k = h.entry ∙ sym k.entry

-- the lines of what segments show
abbrev lines_shown : List LoadedSegment → List ℕ
lines_shown segments = flat_map (λ s. lines_at s.address s.bytes) segments

lines_are_shown : (segments : List Segment) → image_lines segments ≡ lines_shown (map shown segments)
lines_are_shown [] = refl
lines_are_shown (s ∷ ss) = ap (λ (more : List ℕ). segment_lines s ++ more) (lines_are_shown ss)

same_lines : (xs ys : List Segment) → map shown xs ≡ map shown ys → image_lines xs ≡ image_lines ys
same_lines xs ys h = lines_are_shown xs ∙ ap lines_shown h ∙ sym (lines_are_shown ys)

-- a text's listing is printed of the text's executable
pub listing_printed : OneWord → (text file lines : List ℕ) → IsExecutableOf text file → IsListingOf text lines → IsDisassemblyOf file lines
listing_printed one text file lines e l =
    let same : l.listing ≡ e.listing = means_one text l.listing e.listing l.means e.means in
    let is : IsImageOf e.listing l.image = subst (λ (listing : Listing). IsImageOf listing l.image) same l.assembled in
    record { image = e.image; stands = e.written; whole = l.whole ∙ same_lines l.image.segments.items e.image.segments.items (one_image one e.listing l.image e.image is e.assembled) }

-- nothing else is
pub one_disassembly : (file a b : List ℕ) → IsDisassemblyOf file a → IsDisassemblyOf file b → a ≡ b
one_disassembly file a b h k = h.whole ∙ same_lines h.image.segments.items k.image.segments.items (h.stands.segments ∙ sym k.stands.segments) ∙ sym k.whole
