-- The addresses of an image's segments, and of the file that stands for it.
use Rattle.std.proofs.Common.{◌≡◌, ℕ, List, [], ◌∷◌, map, refl, ap, ◌∙◌}
use Rattle.elf32.specs.declared.image.Segment.{Segment}
use Rattle.elf32.specs.declared.image.Image.{Image}
use Rattle.elf32.specs.declared.header.ProgramHeader.{ProgramHeader}
use Rattle.elf32.specs.declared.range.AddressRange.{AddressRange}
use Rattle.elf32.specs.Headers.{LoadedSegment, loaded, range_of, ranges, segment_of, shown, range_shown, ranges_shown}
use Rattle.elf32.specs.Files.{StandsFor}

-- the addresses of what a segment shows
abbrev range_in : LoadedSegment → AddressRange
range_in l = record { address = l.address; size = l.size }

-- segments have the addresses of what they show
ranges_in_shown : (ss : List Segment) → map range_shown ss ≡ map range_in (map shown ss)
ranges_in_shown [] = refl
ranges_in_shown (s ∷ ss) = ap (λ (rs : List AddressRange). range_shown s ∷ rs) (ranges_in_shown ss)

-- the segments of program headers have the headers' addresses
ranges_in_file : (file : List ℕ) (hs : List ProgramHeader) → map range_in (map (segment_of file) hs) ≡ map range_of hs
ranges_in_file file [] = refl
ranges_in_file file (h ∷ hs) = ap (λ (rs : List AddressRange). range_of h ∷ rs) (ranges_in_file file hs)

-- the addresses of an image's segments are those that the file loads
pub same_ranges : (file : List ℕ) (pages : ℕ) (image : Image) → StandsFor file pages image → ranges_shown image ≡ ranges file
same_ranges file pages image stands = ranges_in_shown image.segments.items ∙ ap (map range_in) stands.segments ∙ ranges_in_file file (loaded file)
