-- An image that stands for a text's listing can be written as a file.
use Rattle.std.proofs.Common.{◌≡◌, ℕ, ◌+◌, ◌%◌, ◌<◌, inl, inr, Bool, true, false, ◌==◌, ◌&&◌, ◌||◌, nat_lt, if◌then◌else◌, List, [], ◌∷◌, map, length, refl, ◌∙◌, sym, ap, subst, arith, Option, None, Ok, Err}
use Rattle.std.specs.List.{list_any, AllByRecursion}
use Rattle.std.proofs.lemmas.Bool.{le-ltb}
use Rattle.std.proofs.lemmas.List.{length-map}
use Rattle.std.proofs.lemmas.List.Elements.{All-from_recursion}
use Rattle.elf32.specs.declared.image.Segment.{Segment}
use Rattle.elf32.specs.declared.image.Image.{Image}
use Rattle.elf32.specs.declared.range.AddressRange.{AddressRange}
use Rattle.elf32.specs.Headers.{range_shown, ranges_shown}
use Rattle.elf32.specs.Faults as elf
use Rattle.elf32.specs.Files.{IsSized, IsLoadable}
use Rattle.masm.specs.Listings.{Part, Listing, first_output, part_size, parts_of, has_byte_at, entry_of, listing_with}
use Rattle.masm.specs.Images.{IsSegmentOf, AreSegmentsOf, IsImageOf}
use Rattle.masm.specs.Assembly.{Means}
use Rattle.masm.specs.declared.layout.Span.{Span}
use Rattle.masm_lines.specs.declared.fault.AsmFault.TheVariants as fault
use Rattle.masm.proofs.Bytes.{bytes_length}
use Rattle.masm.proofs.Mirrors.{span_of, mirror, mirror_parts, all_sound}
use Rattle.masm.proofs.Spans.{Apart, IsWithin, AllApart, AreSound, first_sound, spans_sound}

abbrev range_of : Span → AddressRange
range_of s = record { address = s.start; size = s.size }

-- the three tests of places
inside : (s : Span) → IsWithin s → elf.is_outside 131072 (range_of s) ≡ false
inside s is =
    let start = le-ltb s.start 0x80000000 is.start in
    let end = le-ltb 0xa0000000 (s.start + s.size) is.end in
    ap (λ b. b || nat_lt 0xa0000000 (s.start + s.size)) start ∙ end

all_inside : (ss : List Span) → AllByRecursion IsWithin ss → list_any (elf.is_outside 131072) (map range_of ss) ≡ false
all_inside [] all = refl
all_inside (s ∷ ss) all = ap (λ b. b || list_any (elf.is_outside 131072) (map range_of ss)) (inside s all.0) ∙ all_inside ss all.1

and_false : (a : Bool) → (a && false) ≡ false
and_false true = refl
and_false false = refl

disjoint : (s t : Span) → Apart s t → elf.share_address (range_of s) (range_of t) ≡ false
disjoint s t (inl under) = ap (λ b. b && nat_lt t.start (s.start + s.size)) (le-ltb s.start (t.start + t.size) under)
disjoint s t (inr over) = ap (λ b. nat_lt s.start (t.start + t.size) && b) (le-ltb t.start (s.start + s.size) over) ∙ and_false (nat_lt s.start (t.start + t.size))

none_shared : (s : Span) (ss : List Span) → AllByRecursion (Apart s) ss → list_any (elf.share_address (range_of s)) (map range_of ss) ≡ false
none_shared s [] all = refl
none_shared s (t ∷ ss) all = ap (λ b. b || list_any (elf.share_address (range_of s)) (map range_of ss)) (disjoint s t all.0) ∙ none_shared s ss all.1

no_overlap : (ss : List Span) → AllApart ss → elf.overlap (map range_of ss) ≡ false
no_overlap [] all = refl
no_overlap (s ∷ ss) all = ap (λ b. b || elf.overlap (map range_of ss)) (none_shared s ss all.0) ∙ no_overlap ss all.1

-- what a listing of parts says
pub record HasEntry (parts : List Part) (listing : Listing) : Type 0 where
  pub same : listing.parts ≡ parts
  pub some : (parts ≡ []) → ⊥
  pub aligned : (listing.entry % 4 == 0) ≡ true
  pub held : list_any (has_byte_at listing.entry) parts ≡ true

entered : (a b : Bool) (l listing : Listing) → (if a && b then Ok l else Err fault.Entry) ≡ Ok listing → (a ≡ true) × (b ≡ true) × (l ≡ listing)
entered true true l listing h = (refl, refl, cc)
entered true false l listing h = cc
entered false b l listing h = cc

has_entry : (entry : Option ℕ) (parts : List Part) (listing : Listing) → listing_with entry parts ≡ Ok listing → HasEntry parts listing
has_entry entry [] listing h = cc
has_entry entry (first ∷ more) listing h =
    let place = entry_of entry first in
    let tests = entered (place % 4 == 0) (list_any (has_byte_at place) (first ∷ more)) (record { parts = first ∷ more; entry = place }) listing h in
    let same : place ≡ listing.entry = ap (λ (l : Listing). l.entry) tests.2 in
    record {
      same = ap (λ (l : Listing). l.parts) (sym tests.2);
      some = λ (e : first ∷ more ≡ []). cc;
      aligned = subst (λ n. (n % 4 == 0) ≡ true) same tests.0;
      held = subst (λ n. list_any (has_byte_at n) (first ∷ more) ≡ true) same tests.1;
    }

-- the segments of the image are those of the listing
segment_size : (part : Part) (segment : Segment) → IsSegmentOf part segment → segment.size ≡ part_size part
segment_size part segment is = is.size ∙ bytes_length part.items segment.bytes.items is.bytes

range_same : (part : Part) (segment : Segment) → IsSegmentOf part segment → range_shown segment ≡ range_of (span_of part)
range_same part segment is = ap (λ n. record { address = n; size = segment.size }) is.address ∙ ap (λ n. record { address = part.address; size = n }) (segment_size part segment is)

ranges_same : (parts : List Part) (segments : List Segment) → AreSegmentsOf parts segments → map range_shown segments ≡ map range_of (map span_of parts)
ranges_same [] [] all = refl
ranges_same [] (segment ∷ segments) all = absurd all
ranges_same (part ∷ parts) [] all = absurd all
ranges_same (part ∷ parts) (segment ∷ segments) all = ap (λ r. r ∷ map range_shown segments) (range_same part segment all.0) ∙ ap (λ rs. range_of (span_of part) ∷ rs) (ranges_same parts segments all.1)

all_sized : (parts : List Part) (segments : List Segment) → AreSegmentsOf parts segments → AllByRecursion IsWithin (map span_of parts) → AllByRecursion IsSized segments
all_sized [] [] all within = tt
all_sized [] (segment ∷ segments) all within = absurd all
all_sized (part ∷ parts) [] all within = absurd all
all_sized (part ∷ parts) (segment ∷ segments) all within = (
  record {
    some = subst (λ n. 0 < n) (sym (segment_size part segment all.0)) within.0.some;
    bytes = omega (arith, all.0.size);
  },
  all_sized parts segments all.1 within.1,
)

held_by_range : (entry : ℕ) (parts : List Part) → list_any (has_byte_at entry) parts ≡ list_any (elf.has_address entry) (map range_of (map span_of parts))
held_by_range entry [] = refl
held_by_range entry (part ∷ parts) = ap (λ b. has_byte_at entry part || b) (held_by_range entry parts)

some_range : (parts : List Part) → (parts ≡ [] → ⊥) → elf.is_empty (map range_of (map span_of parts)) ≡ false
some_range [] some = absurd (some refl)
some_range (part ∷ parts) some = refl

-- four tests that fail
no_fault : (pages entry : ℕ) (rs : List AddressRange) → elf.is_empty rs ≡ false → list_any (elf.is_outside pages) rs ≡ false → elf.overlap rs ≡ false → elf.has_wrong_entry entry rs ≡ false → elf.first_fault_of (elf.range_faults pages entry rs) ≡ None
no_fault pages entry rs some within apart place = rw (some, within, apart, place) refl

pub loadable : (text : List ℕ) (listing : Listing) (image : Image) → Means text listing → IsImageOf listing image → IsLoadable 131072 image
loadable text listing image means stands =
    let parts = parts_of means.output in
    let found = has_entry means.output.entry parts listing means.whole in
    let sound : AreSound (map span_of parts) = subst AreSound (sym (mirror_parts means.output)) (spans_sound (mirror means.output) (all_sound means.names first_output means.output means.program means.items means.places first_sound)) in
    let segments : AreSegmentsOf parts image.segments.items = subst (λ ps. AreSegmentsOf ps image.segments.items) found.same stands.segments in
    let ranges : ranges_shown image ≡ map range_of (map span_of parts) = ranges_same parts image.segments.items segments in
    let held : list_any (elf.has_address image.entry) (map range_of (map span_of parts)) ≡ true = sym (held_by_range image.entry parts) ∙ ap (λ n. list_any (has_byte_at n) parts) stands.entry ∙ found.held in
    let aligned : (image.entry % 4 == 0) ≡ true = ap (λ n. n % 4 == 0) stands.entry ∙ found.aligned in
    record {
      memory = omega arith;
      count = omega (arith, sound.count, length-map (map span_of parts) range_of, length-map image.segments.items range_shown, ap length ranges);
      sized = All-from_recursion IsSized image.segments.items (all_sized parts image.segments.items segments sound.within);
      sound = ap (λ rs. elf.first_fault_of (elf.range_faults 131072 image.entry rs)) ranges ∙ no_fault 131072 image.entry (map range_of (map span_of parts)) (some_range parts found.some) (all_inside (map span_of parts) sound.within) (no_overlap (map span_of parts) sound.apart) (rw (aligned, held) refl);
    }
