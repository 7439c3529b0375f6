-- What is read of the program header table that is written for segments.
use Rattle.std.proofs.Common.{◌≡◌, ℕ, ◌+◌, ◌*◌, ◌/◌, ◌%◌, ◌^◌, ◌<◌, ◌≤◌, Bool, false, not, cond, nat_lt, ◌==◌, List, [], ◌∷◌, ◌++◌, length, take, drop, map, refl, sym, ap, ◌∙◌, arith, append_assoc, length-append}
use Rattle.std.specs.List.{list_any, filter, range_with_len, AllByRecursion}
use Rattle.std.proofs.Math.Seq.{drop-append-add}
use Rattle.std.proofs.lemmas.List.{drop_at, take_at}
use Rattle.std.proofs.lemmas.Bool.{le-ltb}
use Rattle.std.proofs.lemmas.Bool.Decides.{nat_tests}
use Rattle.word32.specs.Words.{word_in}
use Rattle.elf32.proofs.Truth.{none_of_three}
use Rattle.elf32.specs.declared.image.Segment.{Segment}
use Rattle.elf32.specs.declared.header.ProgramHeader.{ProgramHeader}
use Rattle.elf32.specs.declared.range.AddressRange.{AddressRange}
use Rattle.elf32.specs.Headers.{file_header, program_header, is_loaded, range_of, segment_of, shown, range_shown}
use Rattle.elf32.specs.Faults.{has_wrong_contents}
use Rattle.elf32.specs.Files.{header_bytes, program_header_bytes, table_bytes, contents}

-- a segment whose fields hold its numbers
pub record IsWord (s : Segment) : Type 0 where
  pub address : s.address < 2 ^ 32
  pub size : s.size < 2 ^ 32
  pub some : 0 < s.size
  pub bytes : length s.bytes.items ≤ s.size

-- the program headers of segments whose bytes stand one after the other from an offset on
abbrev pub headers_of : ℕ → List Segment → List ProgramHeader
headers_of offset [] = []
headers_of offset (s ∷ ss) = record { kind = 1; offset = offset; address = s.address; file_size = length s.bytes.items; memory_size = s.size } ∷ headers_of (offset + length s.bytes.items) ss

-- how many bytes the segments have
abbrev pub bytes_in : List Segment → ℕ
bytes_in [] = 0
bytes_in (s ∷ ss) = length s.bytes.items + bytes_in ss

pub length-contents : (ss : List Segment) → length (contents ss) ≡ bytes_in ss
length-contents [] = refl
length-contents (s ∷ ss) = let rest = length-contents ss in omega (arith, length-append s.bytes.items (contents ss))

pub length-program_header_bytes : (offset : ℕ) (s : Segment) → length (program_header_bytes offset s) ≡ 32
unfolding program_header_bytes
length-program_header_bytes offset s = refl

pub length-header_bytes : (entry n : ℕ) → length (header_bytes entry n) ≡ 52
unfolding header_bytes
length-header_bytes entry n = refl

pub length-table_bytes : (offset : ℕ) (ss : List Segment) → length (table_bytes offset ss) ≡ 32 * length ss
length-table_bytes offset [] = refl
length-table_bytes offset (s ∷ ss) =
    let rest = length-table_bytes (offset + length s.bytes.items) ss in
    omega (arith, length-append (program_header_bytes offset s) (table_bytes (offset + length s.bytes.items) ss), length-program_header_bytes offset s)

-- a word behind other bytes
word_past : (before bytes : List ℕ) (place i : ℕ) → length before ≡ place → word_in (before ++ bytes) (place + i) ≡ word_in bytes i
word_past before bytes place i h =
    ap (λ (b : List ℕ). word_in b 0) (ap (λ (n : ℕ). drop (n + i) (before ++ bytes)) (sym h) ∙ drop-append-add before bytes i)

-- the bytes of a word
joined : (n : ℕ) → n < 2 ^ 32 → n % 256 + 256 * (n / 256 % 256 + 256 * (n / 65536 % 256 + 256 * (n / 16777216 % 256 + 0))) ≡ n
joined n h = omega arith

-- a program header that was written reads back
header_at_start : (offset : ℕ) (s : Segment) (rest : List ℕ) → offset < 2 ^ 32 → IsWord s → program_header (program_header_bytes offset s ++ rest) 0 ≡ record { kind = 1; offset = offset; address = s.address; file_size = length s.bytes.items; memory_size = s.size }
unfolding program_header program_header_bytes
header_at_start offset s rest h w =
    let at = joined offset h in
    let address = joined s.address w.address in
    let count = joined (length s.bytes.items) (omega (arith, w.bytes, w.size)) in
    let size = joined s.size w.size in
    cc

-- the ELF header that was written reads back
pub header_read : (entry n : ℕ) (rest : List ℕ) → entry < 2 ^ 32 → n < 2 ^ 16 → file_header (header_bytes entry n ++ rest) ≡ record { kind = 2; machine = 8; version = 1; entry = entry; table = 52; header_size = 52; entry_size = 32; entries = n }
unfolding file_header header_bytes
header_read entry n rest h k =
    let address = joined entry h in
    let count : n % 256 + 256 * (n / 256 % 256 + 0) ≡ n = omega arith in
    cc

-- a program header behind other bytes
header_past : (before bytes : List ℕ) (place : ℕ) → length before ≡ place → program_header (before ++ bytes) place ≡ program_header bytes 0
unfolding program_header
header_past before bytes place h =
    let kind : word_in (before ++ bytes) place ≡ word_in bytes 0 = ap (λ (n : ℕ). word_in (before ++ bytes) n) (omega arith) ∙ word_past before bytes place 0 h in
    let offset = word_past before bytes place 4 h in
    let address = word_past before bytes place 8 h in
    let count = word_past before bytes place 16 h in
    let size = word_past before bytes place 20 h in
    cc

-- the table that was written behind other bytes reads back
pub table_read : (before : List ℕ) (offset : ℕ) (ss : List Segment) (rest : List ℕ) (place k : ℕ) → length before ≡ place + 32 * k → offset + bytes_in ss < 2 ^ 32 → AllByRecursion IsWord ss → map (λ k. program_header (before ++ (table_bytes offset ss ++ rest)) (place + 32 * k)) (range_with_len k (length ss)) ≡ headers_of offset ss
table_read before offset [] rest place k h b w = refl
table_read before offset (s ∷ ss) rest place k h b w =
    let own = program_header_bytes offset s in
    let next = offset + length s.bytes.items in
    let tail = table_bytes next ss ++ rest in
    let first : ProgramHeader = record { kind = 1; offset = offset; address = s.address; file_size = length s.bytes.items; memory_size = s.size } in
    let all : List ℕ → List ProgramHeader = λ file. program_header file (place + 32 * k) ∷ map (λ k. program_header file (place + 32 * k)) (range_with_len (k + 1) (length ss)) in
    let inner : (own ++ table_bytes next ss) ++ rest ≡ own ++ tail = append_assoc own (table_bytes next ss) rest in
    let outer : before ++ (own ++ tail) ≡ (before ++ own) ++ tail = sym (append_assoc before own tail) in
    let head : program_header (before ++ (own ++ tail)) (place + 32 * k) ≡ first =
    header_past before (own ++ tail) (place + 32 * k) h ∙ header_at_start offset s tail (omega arith) w.0 in
    let others = table_read (before ++ own) next ss rest place (k + 1) (omega (arith, length-append before own, length-program_header_bytes offset s)) (omega arith) w.1 in
    ap all (ap (λ (b : List ℕ). before ++ b) inner ∙ outer)
    ∙ ap (λ (p : ProgramHeader). p ∷ map (λ k. program_header ((before ++ own) ++ tail) (place + 32 * k)) (range_with_len (k + 1) (length ss))) (ap (λ (b : List ℕ). program_header b (place + 32 * k)) (sym outer) ∙ head)
    ∙ ap (λ (ps : List ProgramHeader). first ∷ ps) others

-- each of those headers is loaded
pub all_loaded : (offset : ℕ) (ss : List Segment) → AllByRecursion IsWord ss → filter is_loaded (headers_of offset ss) ≡ headers_of offset ss
all_loaded offset [] w = refl
all_loaded offset (s ∷ ss) w =
    let first : ProgramHeader = record { kind = 1; offset = offset; address = s.address; file_size = length s.bytes.items; memory_size = s.size } in
    let some : (s.size == 0) ≡ false = grind (arith, nat_tests, w.0) in
    ap (λ (b : Bool). cond (not b) (first ∷ filter is_loaded (headers_of (offset + length s.bytes.items) ss)) (filter is_loaded (headers_of (offset + length s.bytes.items) ss))) some
    ∙ ap (λ (ps : List ProgramHeader). first ∷ ps) (all_loaded (offset + length s.bytes.items) ss w.1)

-- their addresses are the segments'
pub same_ranges : (offset : ℕ) (ss : List Segment) → map range_of (headers_of offset ss) ≡ map range_shown ss
same_ranges offset [] = refl
same_ranges offset (s ∷ ss) = ap (λ (rs : List AddressRange). range_shown s ∷ rs) (same_ranges (offset + length s.bytes.items) ss)

-- their segments are the segments
pub same_segments : (before : List ℕ) (offset : ℕ) (ss : List Segment) → length before ≡ offset → map (segment_of (before ++ contents ss)) (headers_of offset ss) ≡ map shown ss
same_segments before offset [] h = refl
same_segments before offset (s ∷ ss) h =
    let bytes = s.bytes.items in
    let at : take (length bytes) (drop offset (before ++ (bytes ++ contents ss))) ≡ bytes =
    ap (take (length bytes)) (drop_at before (bytes ++ contents ss) offset h) ∙ take_at bytes (contents ss) (length bytes) refl in
    let outer : before ++ (bytes ++ contents ss) ≡ (before ++ bytes) ++ contents ss = sym (append_assoc before bytes (contents ss)) in
    let others = same_segments (before ++ bytes) (offset + length bytes) ss (omega (arith, length-append before bytes)) in
    let rest : map (segment_of (before ++ (bytes ++ contents ss))) (headers_of (offset + length bytes) ss) ≡ map shown ss =
    ap (λ (b : List ℕ). map (segment_of b) (headers_of (offset + length bytes) ss)) outer ∙ others in
    cc

-- their bytes lie within a file of that length
pub contents_within : (size offset : ℕ) (ss : List Segment) → offset + bytes_in ss ≤ size → AllByRecursion IsWord ss → list_any (has_wrong_contents size) (headers_of offset ss) ≡ false
contents_within size offset [] h w = refl
contents_within size offset (s ∷ ss) h w =
    let n = length s.bytes.items in
    let fits : nat_lt s.size n ≡ false = le-ltb s.size n (omega (arith, w.0.bytes)) in
    let within : nat_lt size (offset + n) ≡ false = le-ltb size (offset + n) (omega arith) in
    let rest = contents_within size (offset + n) ss (omega arith) w.1 in
    none_of_three (nat_lt s.size n) (not (n == 0)) (nat_lt size (offset + n)) (list_any (has_wrong_contents size) (headers_of (offset + n) ss)) fits within rest
