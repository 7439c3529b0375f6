-- The image of a listing.
use Rattle.std.proofs.Common.{◌≡◌, ℕ, ◌+◌, ◌-◌, ◌%◌, List, [], ◌∷◌, refl, sym, ap, ◌∙◌, arith, Ok, Err, Some, Option, Result, Bool, true, false, ◌&&◌, if◌then◌else◌, slice_get, unwrap_or, nat_le, nat_lt, leb, ltb, eqb}
use Rattle.std.specs.Prelude.{◌==◌}
use Rattle.std.specs.List.{list_any}
use Rattle.std.proofs.lemmas.Bool.Decides.{nat_tests}
use Rattle.elf32.specs.declared.image.Segment.{Segment}
use Rattle.elf32.specs.declared.image.Image.{Image}
use Rattle.masm.specs.Answers.{Gives}
use Rattle.masm.specs.Assembly.{at_line}
use Rattle.masm.specs.Images.{IsSegmentOf, AreSegmentsOf, IsImageOf}
use Rattle.masm.specs.Listings.{Part, Listing, Output, has_byte_at, listing_with, listing_of, entry_of, parts_of, part_size}
use Rattle.masm_lines.specs.declared.fault.AsmFault.{AsmFault}
use Rattle.masm_lines.specs.declared.fault.AsmFault.TheVariants as fault
use Rattle.masm.proofs.OutputItems.{bytes_size}

-- whether a segment has a byte at an address
abbrev pub has_byte : ℕ → Segment → Bool
has_byte address s = nat_le s.address address && nat_lt (address - s.address) s.size

behind_start : (s a address : ℕ) → leb s address ≡ true → ltb (address - s) a ≡ ltb address (s + a)
behind_start s a address h = grind (arith, nat_tests)

same_and : (b c d : Bool) → (b ≡ true → c ≡ d) → (b && c) ≡ (b && d)
same_and true c d h = h refl
same_and false c d h = refl

within : (s p a n address : ℕ) → s ≡ p → a ≡ n → (leb s address && ltb (address - s) a) ≡ (leb p address && ltb address (p + n))
within s p a n address e f = rw (e, f) (same_and (leb p address) (ltb (address - p) n) (ltb address (p + n)) (λ h. behind_start p n address h))

same_byte : (address : ℕ) (p : Part) (s : Segment) → IsSegmentOf p s → has_byte address s ≡ has_byte_at address p
same_byte address p s h = within s.address p.address s.size (part_size p) address h.address (h.size ∙ bytes_size s.bytes.items p.items h.bytes)

byte_in : (address : ℕ) (parts : List Part) (segments : List Segment) → AreSegmentsOf parts segments → list_any (has_byte address) segments ≡ list_any (has_byte_at address) parts
byte_in address [] [] h = refl
byte_in address [] (s ∷ ss) h = absurd h
byte_in address (p ∷ ps) [] h = absurd h
byte_in address (p ∷ ps) (s ∷ ss) h = rw (same_byte address p s h.0, byte_in address ps ss h.1)

-- the entry is in a segment, and a multiple of 4
abbrev pub is_entry : ℕ → List Segment → Bool
is_entry e segments = e % 4 == 0 && list_any (has_byte e) segments

abbrev listing_if : List Part → ℕ → Bool → Result Listing AsmFault
listing_if parts e b = if e % 4 == 0 && b then Ok (record { parts = parts; entry = e }) else Err fault.Entry

-- the listing of parts, as their segments tell it
listing_is : (parts : List Part) (segments : List Segment) (entry : Option ℕ) (first : Segment) (e : ℕ) → AreSegmentsOf parts segments → Some first ≡ slice_get segments 0 → e ≡ unwrap_or entry first.address →
    listing_with entry parts ≡ (if is_entry e segments then Ok (record { parts = parts; entry = e }) else Err fault.Entry)
listing_is [] [] entry first e h f g = absurd (cc)
listing_is [] (s ∷ ss) entry first e h f g = absurd h
listing_is (p ∷ ps) [] entry first e h f g = absurd h
listing_is (p ∷ ps) (s ∷ ss) entry first e h f g =
    let same : first ≡ s = cc in
    let start : e ≡ entry_of entry p = g ∙ ap (λ (n : ℕ). unwrap_or entry n) (ap (λ (x : Segment). x.address) same ∙ h.0.address) in
    sym (ap (listing_if (p ∷ ps) (entry_of entry p)) (byte_in (entry_of entry p) (p ∷ ps) (s ∷ ss) h))
    ∙ sym (ap (λ (n : ℕ). listing_if (p ∷ ps) n (list_any (has_byte n) (s ∷ ss))) start)

pub image_fault : (output : Output) (segments : List Segment) (first : Segment) (e : ℕ) → AreSegmentsOf (parts_of output) segments → Some first ≡ slice_get segments 0 → e ≡ unwrap_or output.entry first.address → is_entry e segments ≡ false → at_line 0 (listing_of output) ≡ Err (fault.Entry, 0)
image_fault output segments first e h f g fails =
    let found : listing_of output ≡ Err fault.Entry = listing_is (parts_of output) segments output.entry first e h f g ∙ rw fails in
    ap (at_line 0) found

gives_ok : (image : Image) (listing : Listing) (found : Result Listing AsmFault) → found ≡ Ok listing → IsImageOf listing image → Gives (λ (i : Image) (l : Listing). IsImageOf l i) (Ok image) (at_line 0 found)
gives_ok image listing found e h = rw e h

pub image_gives : (output : Output) (image : Image) (first : Segment) → AreSegmentsOf (parts_of output) image.segments.items → Some first ≡ slice_get image.segments.items 0 → image.entry ≡ unwrap_or output.entry first.address → is_entry image.entry image.segments.items ≡ true → Gives (λ (i : Image) (l : Listing). IsImageOf l i) (Ok image) (at_line 0 (listing_of output))
image_gives output image first h f g holds =
    gives_ok image (record { parts = parts_of output; entry = image.entry }) (listing_of output)
    (listing_is (parts_of output) image.segments.items output.entry first image.entry h f g ∙ rw holds)
    (record { segments = h; entry = refl })

-- an entry that isn't a multiple of 4, and one in no segment
pub not_aligned : (e : ℕ) (segments : List Segment) → (e % 4 ≡ 0 → ⊥) → is_entry e segments ≡ false
not_aligned e segments h = let fails : eqb (e % 4) 0 ≡ false = grind (arith, nat_tests) in rw fails

pub entry_is : (e : ℕ) (segments : List Segment) (b : Bool) → e % 4 ≡ 0 → b ≡ list_any (has_byte e) segments → is_entry e segments ≡ b
entry_is e segments b h f = let holds : eqb (e % 4) 0 ≡ true = grind (arith, nat_tests) in rw (holds, f)
