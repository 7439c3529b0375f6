-- The machine that is booted holds its listing.
use Rattle.std.proofs.Common.{◌≡◌, ℕ, ◌+◌, ◌-◌, ◌*◌, ◌%◌, ◌^◌, false, List, [], ◌∷◌, map, length, get_or, Some, sym, ap, subst, ◌∙◌, arith}
use Rattle.std.specs.List.{list_any, AllByRecursion}
use Rattle.std.proofs.lemmas.List.{length-replicate}
use Rattle.std.proofs.lemmas.List.Elements.{All-from_recursion, recursion_from_All}
use Rattle.word32.specs.Zeros.{zeros}
use Rattle.elf32.specs.declared.image.Segment.{Segment}
use Rattle.elf32.specs.declared.image.Image.{Image}
use Rattle.elf32.specs.declared.fault.Fault.TheVariants as fault
use Rattle.elf32.specs.Images.{IsWithin}
use Rattle.elf32.specs.Headers.{file_header, program_headers, ranges, range_shown}
use Rattle.elf32.specs.Faults.{has_wrong_contents, overlap, header_faults, range_faults, segment_faults}
use Rattle.elf32.specs.Files.{StandsFor}
use Rattle.elf32.proofs.Firsts.{rest_passed, both_passed}
use Rattle.elf32.proofs.Fitting.{stands_fit}
use Rattle.elf32.proofs.Returning as returning
use Rattle.masm.specs.Listings.{Part, Listing}
use Rattle.masm.specs.Images.{IsSegmentOf, AreSegmentsOf, IsImageOf}
use Rattle.machine.specs.Step.{Machine}
use Rattle.mips_cp0.specs.declared.profile.Profile.{Profile}
use Rattle.machine.specs.Boot.{boot_machine}
use Rattle.machine.specs.Replies.{byte_at}
use Rattle.load_and_go.specs.Holds.{HoldsFrom, Holds}
use Rattle.load_and_go.proofs.Placing.{IsIn, length-all, all_in}
use Rattle.load_and_go.proofs.Addresses.{byte_there}
use Rattle.load_and_go.proofs.Items.{AreAt, holds_from}
use Rattle.load_and_go.proofs.Ranges.{same_ranges}
use Rattle.load_and_go.proofs.Same.{segments_same}

-- no two segments of an image that a file stands for share an address
no_overlap : (file : List ℕ) (pages : ℕ) (image : Image) → StandsFor file pages image → overlap (map range_shown image.segments.items) ≡ false
no_overlap file pages image stands =
    let rest = rest_passed (header_faults file) (segment_faults file pages) stands.sound in
    let parts = both_passed (list_any (has_wrong_contents (length file)) (program_headers file)) fault.Contents (range_faults pages (file_header file).entry (ranges file)) rest in
    ap overlap (same_ranges file pages image stands) ∙ (returning.placed pages (file_header file).entry (ranges file) parts.1).apart

-- where memory has a segment's bytes at their places, they are read at their addresses
bytes_at_addresses : (m : Machine) (n : ℕ) (s : Segment) → length m.board.memory ≡ n → IsWithin n s → IsWithin (131072 * 4096) s → IsIn m.board.memory s → AreAt m s.address s.bytes.items
bytes_at_addresses m n s size is reached held k below =
    let address : (s.address + k) % 2 ^ 32 ≡ s.address + k = omega (arith, reached.file_part, reached.start, reached.end) in
    let place : s.address + k - 0x80000000 ≡ s.address - 0x80000000 + k = omega (arith, reached.start) in
    ap (byte_at m) address
    ∙ byte_there m (s.address + k) (omega (arith, reached.start)) (omega (arith, reached.file_part, reached.start, reached.end)) (omega (arith, is.file_part, is.start, is.end))
    ∙ ap (λ (p : ℕ). Some (get_or m.board.memory p 0)) place
    ∙ ap Some (held k below)

-- where a segment's bytes are read at their addresses, its part is held
part_held : (m : Machine) (part : Part) (s : Segment) → IsSegmentOf part s → AreAt m s.address s.bytes.items → HoldsFrom m part.address part.items
part_held m part s is all = subst (λ (n : ℕ). HoldsFrom m n part.items) is.address (holds_from m s.address part.items s.bytes.items is.bytes all)

-- the same of all segments and parts
parts_held : (m : Machine) (n : ℕ) (parts : List Part) (ss : List Segment) → length m.board.memory ≡ n → AllByRecursion (IsWithin n) ss → AllByRecursion (IsWithin (131072 * 4096)) ss → AllByRecursion (IsIn m.board.memory) ss → AreSegmentsOf parts ss → AllByRecursion (λ (p : Part). HoldsFrom m p.address p.items) parts
parts_held m n [] ss size is reached held all = tt
parts_held m n (part ∷ parts) [] size is reached held all = absurd all
parts_held m n (part ∷ parts) (s ∷ ss) size is reached held all =
    (part_held m part s all.0 (bytes_at_addresses m n s size is.0 reached.0 held.0), parts_held m n parts ss size is.1 reached.1 held.1 all.1)

-- how many zeros there are
length-zeros : (n : ℕ) → length (zeros n) ≡ n
unfolding zeros
length-zeros n = length-replicate n 0

-- the machine that is booted from what is read holds the listing of what was assembled
pub machine_holds : (listing : Listing) (assembled read : Image) (file : List ℕ) (profile : Profile) (pages : ℕ) → IsImageOf listing assembled → StandsFor file 131072 assembled → StandsFor file pages read → Holds (boot_machine profile read pages) listing
machine_holds listing assembled read file profile pages image written stands =
    let ss = read.segments.items in
    let n = pages * 4096 in
    let memory = zeros n in
    let booted = boot_machine profile read pages in
    let segments = segments_same listing.parts assembled.segments.items ss (written.segments ∙ sym stands.segments) image.segments in
    let reached : StandsFor file 131072 read = record { sound = written.sound; entry = stands.entry; segments = stands.segments } in
    let within = recursion_from_All (IsWithin n) ss (stands_fit file pages read stands) in
    let below = recursion_from_All (IsWithin (131072 * 4096)) ss (stands_fit file 131072 read reached) in
    let held = all_in memory n ss (length-zeros n) within (no_overlap file pages read stands) in
    record {
      parts = All-from_recursion (λ (p : Part). HoldsFrom booted p.address p.items) listing.parts (parts_held booted n listing.parts ss (length-all memory n ss (length-zeros n) within) within below held segments);
      entry = stands.entry ∙ sym written.entry ∙ image.entry;
    }
