-- The image that a file stands for lies within the memory.
use Rattle.std.proofs.Common.{◌≡◌, ℕ, ◌+◌, ◌*◌, ◌≤◌, Bool, true, false, cond, ◌||◌, ◌&&◌, not, nat_lt, ◌==◌, List, [], ◌∷◌, length, take, drop, map, refl, sym, subst, arith, length-take}
use Rattle.std.specs.List.{list_any, filter, AllByRecursion}
use Rattle.std.proofs.lemmas.List.Elements.{All-from_recursion}
use Rattle.std.proofs.lemmas.Bool.{ltb-false}
use Rattle.elf32.specs.declared.image.Image.{Image}
use Rattle.elf32.specs.declared.image.Segment.{Segment}
use Rattle.elf32.specs.declared.fault.Fault.TheVariants as fault
use Rattle.elf32.specs.declared.header.ProgramHeader.{ProgramHeader}
use Rattle.elf32.specs.Images.{IsWithin, FitsPages}
use Rattle.elf32.specs.Headers.{file_header, program_headers, is_loadable, is_loaded, range_of, ranges, LoadedSegment, segment_of, shown}
use Rattle.elf32.specs.Faults.{has_wrong_contents, is_outside, header_faults, range_faults, segment_faults}
use Rattle.elf32.specs.Files.{StandsFor}
use Rattle.elf32.proofs.Truth.{neither, both, second_of}
use Rattle.elf32.proofs.Firsts.{rest_passed, both_passed}
use Rattle.elf32.proofs.Returning.{placed}

-- a segment lies within a memory of some pages
record Lies (pages : ℕ) (s : LoadedSegment) : Type 0 where
  file_part : length s.bytes ≤ s.size
  start : 0x80000000 ≤ s.address
  end : s.address + s.size ≤ 0x80000000 + 4096 * pages

-- right contents of a segment to load are no more than its memory
file_part : (file : List ℕ) (h : ProgramHeader) → is_loaded h ≡ true → has_wrong_contents (length file) h ≡ false → length (take h.file_size (drop h.offset file)) ≤ h.memory_size
file_part file h loads right =
    let loadable = (both (is_loadable h) (not (h.memory_size == 0)) loads).0 in
    let wrong : Bool = nat_lt h.memory_size h.file_size || (not (h.file_size == 0) && nat_lt (length file) (h.offset + h.file_size)) in
    let parts = neither (nat_lt h.memory_size h.file_size) (not (h.file_size == 0) && nat_lt (length file) (h.offset + h.file_size)) (second_of (is_loadable h) wrong loadable right) in
    omega (arith, ltb-false h.memory_size h.file_size parts.0, length-take h.file_size (drop h.offset file))

lies_more : (file : List ℕ) (pages : ℕ) (h : ProgramHeader) (hs : List ProgramHeader) (b : Bool) → is_loaded h ≡ b → has_wrong_contents (length file) h ≡ false → list_any (is_outside pages) (map range_of (cond b (h ∷ hs) hs)) ≡ false → (list_any (is_outside pages) (map range_of hs) ≡ false → AllByRecursion (Lies pages) (map (segment_of file) hs)) → AllByRecursion (Lies pages) (map (segment_of file) (cond b (h ∷ hs) hs))
lies_more file pages h hs true loads right within rest =
    let parts = neither (is_outside pages (range_of h)) (list_any (is_outside pages) (map range_of hs)) within in
    let edges = neither (nat_lt h.address 0x80000000) (nat_lt (0x80000000 + 4096 * pages) (h.address + h.memory_size)) parts.0 in
    (record { file_part = file_part file h loads right; start = ltb-false h.address 0x80000000 edges.0; end = ltb-false (0x80000000 + 4096 * pages) (h.address + h.memory_size) edges.1 }, rest parts.1)
lies_more file pages h hs false loads right within rest = rest within

all_lie : (file : List ℕ) (pages : ℕ) (hs : List ProgramHeader) → list_any (has_wrong_contents (length file)) hs ≡ false → list_any (is_outside pages) (map range_of (filter is_loaded hs)) ≡ false → AllByRecursion (Lies pages) (map (segment_of file) (filter is_loaded hs))
all_lie file pages [] right within = tt
all_lie file pages (h ∷ hs) right within =
    let parts = neither (has_wrong_contents (length file) h) (list_any (has_wrong_contents (length file)) hs) right in
    lies_more file pages h (filter is_loaded hs) (is_loaded h) refl parts.0 within (all_lie file pages hs parts.1)

all_within : (pages : ℕ) (ss : List Segment) → AllByRecursion (Lies pages) (map shown ss) → AllByRecursion (IsWithin (pages * 4096)) ss
all_within pages [] lie = tt
all_within pages (s ∷ ss) lie =
    (record { file_part = lie.0.file_part; start = lie.0.start; end = omega (arith, lie.0.end) }, all_within pages ss lie.1)

pub stands_fit : (file : List ℕ) (pages : ℕ) (image : Image) → StandsFor file pages image → FitsPages image pages
stands_fit file pages image stands =
    let rest = rest_passed (header_faults file) (segment_faults file pages) stands.sound in
    let parts = both_passed (list_any (has_wrong_contents (length file)) (program_headers file)) fault.Contents (range_faults pages (file_header file).entry (ranges file)) rest in
    let within = (placed pages (file_header file).entry (ranges file) parts.1).within in
    let lie = all_lie file pages (program_headers file) parts.0 within in
    All-from_recursion (IsWithin (pages * 4096)) image.segments.items (all_within pages image.segments.items (subst (AllByRecursion (Lies pages)) (sym stands.segments) lie))
