-- The file that is written for an image stands for it.
use Rattle.std.proofs.Common.{◌≡◌, ℕ, ◌+◌, ◌*◌, ◌%◌, ◌^◌, ◌<◌, ◌≤◌, true, false, not, nat_lt, nat_le, ◌==◌, inl, inr, List, [], ◌∷◌, ◌++◌, None, length, map, refl, sym, ap, ◌∙◌, arith, append_assoc, length-append}
use Rattle.std.specs.List.{list_any, filter, range_with_len, AllByRecursion}
use Rattle.std.proofs.lemmas.List.Elements.{recursion_from_All}
use Rattle.std.proofs.lemmas.Bool.{ltb-false, ltb-true, le-ltb}
use Rattle.elf32.specs.declared.image.Image.{Image}
use Rattle.elf32.specs.declared.image.Segment.{Segment}
use Rattle.elf32.specs.declared.fault.Fault.TheVariants as fault
use Rattle.elf32.specs.declared.header.FileHeader.{FileHeader}
use Rattle.elf32.specs.declared.range.AddressRange.{AddressRange}
use Rattle.elf32.specs.Headers.{file_header, program_header, program_headers, is_loaded, loaded, range_of, ranges, segment_of, range_shown, ranges_shown}
use Rattle.elf32.specs.Faults.{is_short, has_wrong_identification, has_wrong_header, has_wrong_table, has_wrong_contents, is_empty, is_outside, overlap, has_address, has_wrong_entry, header_faults, range_faults, segment_faults, first_fault_of}
use Rattle.elf32.specs.Files.{StandsFor, IsLoadable, IsSized, file_of, header_bytes, table_bytes, contents}
use Rattle.elf32.proofs.Firsts.{first_after, first_passed, both_passed}
use Rattle.elf32.proofs.Truth.{neither, one_of, both, is_true, none_of_two}
use Rattle.elf32.proofs.Totals.{sizes, sizes_fit}
use Rattle.elf32.proofs.Tables.{IsWord, headers_of, bytes_in, length-contents, length-header_bytes, length-table_bytes, header_read, table_read, all_loaded, same_ranges, same_segments, contents_within}

-- what no fault of the ranges says
pub record IsPlaced (pages entry : ℕ) (rs : List AddressRange) : Type 0 where
  pub some : is_empty rs ≡ false
  pub within : list_any (is_outside pages) rs ≡ false
  pub apart : overlap rs ≡ false
  pub entered : has_wrong_entry entry rs ≡ false

pub placed : (pages entry : ℕ) (rs : List AddressRange) → first_fault_of (range_faults pages entry rs) ≡ None → IsPlaced pages entry rs
placed pages entry rs none =
    let last = (has_wrong_entry entry rs, fault.Entry) ∷ [] in
    let later = (overlap rs, fault.Overlap) ∷ last in
    let places = (list_any (is_outside pages) rs, fault.Place) ∷ later in
    let a = both_passed (is_empty rs) fault.Empty places none in
    let b = both_passed (list_any (is_outside pages) rs) fault.Place later a.1 in
    let d = both_passed (overlap rs) fault.Overlap last b.1 in
    let e = both_passed (has_wrong_entry entry rs) fault.Entry [] d.1 in
    record { some = a.0; within = b.0; apart = d.0; entered = e.0 }

-- a range within the memory begins and ends in it
range_start : (pages : ℕ) (r : AddressRange) → is_outside pages r ≡ false → 0x80000000 ≤ r.address
range_start pages r within =
    let edges = neither (nat_lt r.address 0x80000000) (nat_lt (0x80000000 + 4096 * pages) (r.address + r.size)) within in
    ltb-false r.address 0x80000000 edges.0

range_end : (pages : ℕ) (r : AddressRange) → is_outside pages r ≡ false → r.address + r.size ≤ 0x80000000 + 4096 * pages
range_end pages r within =
    let edges = neither (nat_lt r.address 0x80000000) (nat_lt (0x80000000 + 4096 * pages) (r.address + r.size)) within in
    ltb-false (0x80000000 + 4096 * pages) (r.address + r.size) edges.1

-- an address in a range is below the memory's end
address_below : (pages address : ℕ) (rs : List AddressRange) → list_any (is_outside pages) rs ≡ false → list_any (has_address address) rs ≡ true → address < 0x80000000 + 4096 * pages
address_below pages address [] within some = cc
address_below pages address (r ∷ rs) within some =
    let parts = neither (is_outside pages r) (list_any (is_outside pages) rs) within in
    let end = range_end pages r parts.0 in
    elim (one_of (has_address address r) (list_any (has_address address) rs) some) [
      | inl own ↦ omega (arith, ltb-true address (r.address + r.size) (both (nat_le r.address address) (nat_lt address (r.address + r.size)) own).1)
      | inr later ↦ address_below pages address rs parts.1 later
    ]

entry_below : (pages entry : ℕ) (rs : List AddressRange) → list_any (is_outside pages) rs ≡ false → has_wrong_entry entry rs ≡ false → entry < 0x80000000 + 4096 * pages
entry_below pages entry rs within entered =
    let parts = neither (not (entry % 4 == 0)) (not (list_any (has_address entry) rs)) entered in
    address_below pages entry rs within (is_true (list_any (has_address entry) rs) parts.1)

-- segments within the memory hold their numbers, and have no more bytes than their ranges
words : (pages : ℕ) (ss : List Segment) → 0x80000000 + 4096 * pages ≤ 2 ^ 32 → AllByRecursion IsSized ss → list_any (is_outside pages) (map range_shown ss) ≡ false → AllByRecursion IsWord ss
words pages [] few sized within = tt
words pages (s ∷ ss) few sized within =
    let parts = neither (is_outside pages (range_shown s)) (list_any (is_outside pages) (map range_shown ss)) within in
    let start = range_start pages (range_shown s) parts.0 in
    let end = range_end pages (range_shown s) parts.0 in
    (record { address = omega (arith, sized.0.some); size = omega arith; some = sized.0.some; bytes = sized.0.bytes }, words pages ss few sized.1 parts.1)

bytes_below : (ss : List Segment) → AllByRecursion IsSized ss → bytes_in ss ≤ sizes (map range_shown ss)
bytes_below [] sized = omega arith
bytes_below (s ∷ ss) sized = let rest = bytes_below ss sized.1 in omega (arith, sized.0.bytes)

identified : (entry n : ℕ) (rest : List ℕ) → has_wrong_identification (header_bytes entry n ++ rest) ≡ false
unfolding header_bytes
identified entry n rest = refl

-- the tests of a written file's headers find no fault
headers_sound : (entry n : ℕ) (rest : List ℕ) → entry < 2 ^ 32 → n ≤ 64 → 32 * n ≤ length rest → first_fault_of (header_faults (header_bytes entry n ++ rest)) ≡ None
headers_sound entry n rest e few room =
    let file = header_bytes entry n ++ rest in
    let size : length file ≡ 52 + length rest = omega (arith, length-append (header_bytes entry n) rest, length-header_bytes entry n) in
    let long : is_short file ≡ false = le-ltb (length file) 52 (omega arith) in
    let begins : has_wrong_identification file ≡ false = identified entry n rest in
    let read = header_read entry n rest e (omega arith) in
    let right : has_wrong_header (file_header file) ≡ false = ap has_wrong_header read in
    let few_entries : nat_lt 64 n ≡ false = le-ltb 64 n few in
    let within : nat_lt (length file) (52 + 32 * n) ≡ false = le-ltb (length file) (52 + 32 * n) (omega arith) in
    let table : has_wrong_table (length file) (file_header file) ≡ false =
    ap (has_wrong_table (length file)) read ∙ none_of_two (nat_lt 64 n) (not (n == 0)) (nat_lt (length file) (52 + 32 * n)) few_entries within in
    first_passed (is_short file) fault.Short ((has_wrong_identification file, fault.Identification) ∷ (has_wrong_header (file_header file), fault.Header) ∷ (has_wrong_table (length file) (file_header file), fault.Table) ∷ []) long
    ∙ first_passed (has_wrong_identification file) fault.Identification ((has_wrong_header (file_header file), fault.Header) ∷ (has_wrong_table (length file) (file_header file), fault.Table) ∷ []) begins
    ∙ first_passed (has_wrong_header (file_header file)) fault.Header ((has_wrong_table (length file) (file_header file), fault.Table) ∷ []) right
    ∙ first_passed (has_wrong_table (length file) (file_header file)) fault.Table [] table

pub file_stands : (image : Image) (pages : ℕ) → IsLoadable pages image → StandsFor (file_of image) pages image
file_stands image pages ok =
    let ss = image.segments.items in
    let n = length ss in
    let start = 52 + 32 * n in
    let file = file_of image in
    let front = header_bytes image.entry n in
    let rest = table_bytes start ss ++ contents ss in
    let split : file ≡ front ++ rest = append_assoc front (table_bytes start ss) (contents ss) in
    let p = placed pages image.entry (ranges_shown image) ok.sound in
    let sized = recursion_from_All IsSized ss ok.sized in
    let small = words pages ss ok.memory sized p.within in
    let entry : image.entry < 2 ^ 32 = omega (arith, entry_below pages image.entry (ranges_shown image) p.within p.entered, ok.memory) in
    let room : bytes_in ss ≤ 4096 * pages = omega (arith, bytes_below ss sized, sizes_fit pages (ranges_shown image) p.within p.apart) in
    let size : length rest ≡ 32 * n + bytes_in ss = omega (arith, length-append (table_bytes start ss) (contents ss), length-table_bytes start ss, length-contents ss) in
    let length_file : length file ≡ start + bytes_in ss = ap length split ∙ omega (arith, length-append front rest, length-header_bytes image.entry n) in
    let read = ap file_header split ∙ header_read image.entry n rest entry (omega (arith, ok.count)) in
    let table = table_read front start ss (contents ss) 52 0 (omega (arith, length-header_bytes image.entry n)) (omega (arith, ok.memory, ok.count)) small in
    let headers : program_headers file ≡ headers_of start ss =
    ap (λ (h : FileHeader). map (λ k. program_header file (h.table + 32 * k)) (range_with_len 0 h.entries)) read
    ∙ ap (λ (b : List ℕ). map (λ k. program_header b (52 + 32 * k)) (range_with_len 0 n)) split
    ∙ table in
    let all : loaded file ≡ headers_of start ss = ap (filter is_loaded) headers ∙ all_loaded start ss small in
    let same : ranges file ≡ ranges_shown image = ap (map range_of) all ∙ same_ranges start ss in
    let sound_headers = ap (λ (b : List ℕ). first_fault_of (header_faults b)) split ∙ headers_sound image.entry n rest entry ok.count (omega arith) in
    let sound_contents : list_any (has_wrong_contents (length file)) (program_headers file) ≡ false =
    ap (list_any (has_wrong_contents (length file))) headers ∙ contents_within (length file) start ss (omega arith) small in
    let sound_ranges : first_fault_of (range_faults pages (file_header file).entry (ranges file)) ≡ None =
    ap (λ (h : FileHeader). first_fault_of (range_faults pages h.entry (ranges file))) read
    ∙ ap (λ (rs : List AddressRange). first_fault_of (range_faults pages image.entry rs)) same
    ∙ ok.sound in
    let before : length (front ++ table_bytes start ss) ≡ start = omega (arith, length-append front (table_bytes start ss), length-header_bytes image.entry n, length-table_bytes start ss) in
    record {
      sound =
          first_after (header_faults file) (segment_faults file pages) sound_headers
          ∙ first_passed (list_any (has_wrong_contents (length file)) (program_headers file)) fault.Contents (range_faults pages (file_header file).entry (ranges file)) sound_contents
          ∙ sound_ranges;
      entry = sym (ap (λ (h : FileHeader). h.entry) read);
      segments = sym (ap (map (segment_of file)) all ∙ same_segments (front ++ table_bytes start ss) start ss before);
    }
