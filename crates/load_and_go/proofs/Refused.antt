-- The fault of a listing's executable for a machine with some pages.
use Rattle.std.proofs.Common.{◌≡◌, ℕ, ◌+◌, ◌*◌, Bool, true, false, ◌||◌, nat_lt, if◌then◌else◌, Some, None, List, [], ◌∷◌, ◌++◌, map, length, refl, sym, ap, ◌∙◌}
use Rattle.std.specs.List.{list_any}
use Rattle.elf32.specs.declared.image.Segment.{Segment}
use Rattle.elf32.specs.declared.image.Image.{Image}
use Rattle.elf32.specs.declared.fault.Fault.{Fault}
use Rattle.elf32.specs.declared.fault.Fault.TheVariants as fault
use Rattle.elf32.specs.declared.range.AddressRange.{AddressRange}
use Rattle.elf32.specs.Headers.{file_header, program_headers, ranges, range_shown}
use Rattle.elf32.specs.Faults.{has_wrong_contents, is_empty, is_outside, overlap, has_wrong_entry, header_faults, range_faults, segment_faults, first_fault_of, first_fault}
use Rattle.elf32.specs.Files.{StandsFor}
use Rattle.elf32.proofs.Firsts.{first_after, first_passed, rest_passed, both_passed}
use Rattle.elf32.proofs.Returning as returning
use Rattle.elf32.proofs.Truth.{neither}
use Rattle.masm.specs.Listings.{Part, Listing, part_size}
use Rattle.masm.specs.Images.{IsSegmentOf, AreSegmentsOf, IsImageOf}
use Rattle.masm.proofs.Bytes.{bytes_length}
use Rattle.load_and_go.specs.Executables.{passes, fault_of}
use Rattle.load_and_go.proofs.Ranges.{same_ranges}

-- where no fault is found, the first tests find none
front_passed : (fs gs : List (Bool × Fault)) → first_fault_of (fs ++ gs) ≡ None → first_fault_of fs ≡ None
front_passed [] gs h = refl
front_passed ((true, f) ∷ fs) gs h = cc
front_passed ((false, f) ∷ fs) gs h = front_passed fs gs h

-- where the other tests find nothing, places decide
place_decides : (b : Bool) (later : List (Bool × Fault)) → first_fault_of later ≡ None → first_fault_of ((b, fault.Place) ∷ later) ≡ (if b then Some fault.Place else None)
place_decides true later h = refl
place_decides false later h = h

-- where ranges have no fault but that of a place, places decide
ranges_decide : (pages entry : ℕ) (rs : List AddressRange) → is_empty rs ≡ false → overlap rs ≡ false → has_wrong_entry entry rs ≡ false → first_fault_of (range_faults pages entry rs) ≡ (if list_any (is_outside pages) rs then Some fault.Place else None)
ranges_decide pages entry rs some apart entered =
    let last = (has_wrong_entry entry rs, fault.Entry) ∷ [] in
    let later = (overlap rs, fault.Overlap) ∷ last in
    let none : first_fault_of later ≡ None = first_passed (overlap rs) fault.Overlap last apart ∙ first_passed (has_wrong_entry entry rs) fault.Entry [] entered in
    first_passed (is_empty rs) fault.Empty ((list_any (is_outside pages) rs, fault.Place) ∷ later) some
    ∙ place_decides (list_any (is_outside pages) rs) later none

-- a file without fault for some pages has for others at most that of a place
places_decide : (file : List ℕ) (pages others : ℕ) → first_fault file pages ≡ None → first_fault file others ≡ (if list_any (is_outside others) (ranges file) then Some fault.Place else None)
places_decide file pages others sound =
    let entry = (file_header file).entry in
    let rest = rest_passed (header_faults file) (segment_faults file pages) sound in
    let front = front_passed (header_faults file) (segment_faults file pages) sound in
    let wrong = list_any (has_wrong_contents (length file)) (program_headers file) in
    let parts = both_passed wrong fault.Contents (range_faults pages entry (ranges file)) rest in
    let placed = returning.placed pages entry (ranges file) parts.1 in
    first_after (header_faults file) (segment_faults file others) front
    ∙ first_passed wrong fault.Contents (range_faults others entry (ranges file)) parts.0
    ∙ ranges_decide others entry (ranges file) placed.some placed.apart placed.entered

-- a range from 80000000 on is outside where it passes the end
outside_past : (start past : Bool) → start ≡ false → (start || past) ≡ past
outside_past true past h = cc
outside_past false past h = refl

-- a segment within kseg0 is outside where its part passes the pages
outside_passes : (pages : ℕ) (part : Part) (s : Segment) → IsSegmentOf part s → is_outside 131072 (range_shown s) ≡ false → is_outside pages (range_shown s) ≡ passes pages part
outside_passes pages part s is within =
    let edges = neither (nat_lt s.address 0x80000000) (nat_lt (0x80000000 + 4096 * 131072) (s.address + s.size)) within in
    let size : s.size ≡ part_size part = is.size ∙ bytes_length part.items s.bytes.items is.bytes in
    outside_past (nat_lt s.address 0x80000000) (nat_lt (0x80000000 + 4096 * pages) (s.address + s.size)) edges.0
    ∙ ap (λ (n : ℕ). nat_lt (0x80000000 + 4096 * pages) (n + s.size)) is.address
    ∙ ap (λ (n : ℕ). nat_lt (0x80000000 + 4096 * pages) (part.address + n)) size

-- the same of some segment and some part
some_passes : (pages : ℕ) (parts : List Part) (ss : List Segment) → AreSegmentsOf parts ss → list_any (is_outside 131072) (map range_shown ss) ≡ false → list_any (is_outside pages) (map range_shown ss) ≡ list_any (passes pages) parts
some_passes pages [] [] all within = refl
some_passes pages [] (s ∷ ss) all within = absurd all
some_passes pages (part ∷ parts) [] all within = absurd all
some_passes pages (part ∷ parts) (s ∷ ss) all within =
    let both = neither (is_outside 131072 (range_shown s)) (list_any (is_outside 131072) (map range_shown ss)) within in
    ap (λ (b : Bool). b || list_any (is_outside pages) (map range_shown ss)) (outside_passes pages part s all.0 both.0)
    ∙ ap (λ (b : Bool). passes pages part || b) (some_passes pages parts ss all.1 both.1)

-- the executable of a listing has the fault of a place where a part passes the pages, and no other
pub executable_fault : (listing : Listing) (assembled : Image) (file : List ℕ) (pages : ℕ) → IsImageOf listing assembled → StandsFor file 131072 assembled → first_fault file pages ≡ fault_of pages listing
executable_fault listing assembled file pages image written =
    let entry = (file_header file).entry in
    let rest = rest_passed (header_faults file) (segment_faults file 131072) written.sound in
    let parts = both_passed (list_any (has_wrong_contents (length file)) (program_headers file)) fault.Contents (range_faults 131072 entry (ranges file)) rest in
    let same = same_ranges file 131072 assembled written in
    let within : list_any (is_outside 131072) (map range_shown assembled.segments.items) ≡ false = ap (list_any (is_outside 131072)) same ∙ (returning.placed 131072 entry (ranges file) parts.1).within in
    places_decide file 131072 pages written.sound
    ∙ ap (λ (rs : List AddressRange). if list_any (is_outside pages) rs then Some fault.Place else None) (sym same)
    ∙ ap (λ (b : Bool). if b then Some fault.Place else None) (some_passes pages listing.parts assembled.segments.items image.segments within)
