-- Half-words and words as bytes, and the headers that are written of them.
use Rattle.std.proofs.Common.{◌≡◌, ℕ, ◌+◌, ◌/◌, ◌%◌, ◌^◌, ◌<◌, List, [], ◌∷◌, ◌++◌, length, get_or, drop, replicate, append_assoc, refl, sym, ap, ◌∙◌, arith}
use Rattle.std.proofs.lemmas.List.{at_drop_more}
use Rattle.word32.specs.Words.{with_half, with_word, half_in, word_in}
use Rattle.elf32.specs.declared.image.Segment.{Segment}
use Rattle.elf32.specs.Faults.{identification}
use Rattle.elf32.specs.Files.{half, word, header_bytes, program_header_bytes, table_bytes}

-- numbers with the same lowest bits have the same lowest bytes
pub same_half : (m n : ℕ) → m % 2 ^ 16 ≡ n % 2 ^ 16 → half m ≡ half n
same_half m n h =
    let a : m % 256 ≡ n % 256 = omega arith in
    let b : m / 256 % 256 ≡ n / 256 % 256 = omega arith in
    cc

pub same_word : (m n : ℕ) → m % 2 ^ 32 ≡ n % 2 ^ 32 → word m ≡ word n
same_word m n h =
    let a : m % 256 ≡ n % 256 = omega arith in
    let b : m / 256 % 256 ≡ n / 256 % 256 = omega arith in
    let c : m / 65536 % 256 ≡ n / 65536 % 256 = omega arith in
    let d : m / 16777216 % 256 ≡ n / 16777216 % 256 = omega arith in
    cc

-- what was written reads back
pub half_reads_back : (n : ℕ) (rest : List ℕ) → n < 2 ^ 16 → half_in (half n ++ rest) 0 ≡ n
half_reads_back n rest h = omega arith

pub word_reads_back : (n : ℕ) (rest : List ℕ) → n < 2 ^ 32 → word_in (word n ++ rest) 0 ≡ n
word_reads_back n rest h = omega arith

-- the program header that the fields make in 32 zeros
pub program_header_made : (offset length_low : ℕ) (s : Segment) (b1 b2 b3 b4 b5 : List ℕ) → length_low ≡ length s.bytes.items % 2 ^ 32 → b1 ≡ with_word (replicate 32 0) 0 1 → b2 ≡ with_word b1 4 offset → b3 ≡ with_word b2 8 s.address → b4 ≡ with_word b3 16 length_low → b5 ≡ with_word b4 20 s.size → b5 ≡ program_header_bytes offset s
unfolding program_header_bytes
program_header_made offset low s b1 b2 b3 b4 b5 h e1 e2 e3 e4 e5 =
    let same : word low ≡ word (length s.bytes.items) = same_word low (length s.bytes.items) (omega arith) in
    let made : b5 ≡ word 1 ++ word offset ++ word s.address ++ word 0 ++ word low ++ word s.size ++ word 0 ++ word 0 =
    e5 ∙ ap (λ (b : List ℕ). with_word b 20 s.size) (e4 ∙ ap (λ (b : List ℕ). with_word b 16 low) (e3 ∙ ap (λ (b : List ℕ). with_word b 8 s.address) (e2 ∙ ap (λ (b : List ℕ). with_word b 4 offset) e1))) in
    made ∙ ap (λ (b : List ℕ). word 1 ++ word offset ++ word s.address ++ word 0 ++ b ++ word s.size ++ word 0 ++ word 0) same

-- the ELF header that the fields make behind the identification
pub header_made : (entry entries : ℕ) (b0 b1 b2 b3 b4 b5 b6 b7 b8 : List ℕ) → b0 ≡ identification ++ replicate 45 0 → b1 ≡ with_half b0 16 2 → b2 ≡ with_half b1 18 8 → b3 ≡ with_word b2 20 1 → b4 ≡ with_word b3 24 entry → b5 ≡ with_word b4 28 52 → b6 ≡ with_half b5 40 52 → b7 ≡ with_half b6 42 32 → b8 ≡ with_half b7 44 entries → b8 ≡ header_bytes entry entries
unfolding header_bytes
header_made entry entries b0 b1 b2 b3 b4 b5 b6 b7 b8 e0 e1 e2 e3 e4 e5 e6 e7 e8 =
    let kinds = e2 ∙ ap (λ (b : List ℕ). with_half b 18 8) (e1 ∙ ap (λ (b : List ℕ). with_half b 16 2) e0) in
    let words = e5 ∙ ap (λ (b : List ℕ). with_word b 28 52) (e4 ∙ ap (λ (b : List ℕ). with_word b 24 entry) (e3 ∙ ap (λ (b : List ℕ). with_word b 20 1) kinds)) in
    e8 ∙ ap (λ (b : List ℕ). with_half b 44 entries) (e7 ∙ ap (λ (b : List ℕ). with_half b 42 32) (e6 ∙ ap (λ (b : List ℕ). with_half b 40 52) words))

-- the header with the lowest bits of the number of entries
pub same_header : (entry m n : ℕ) → m % 2 ^ 16 ≡ n % 2 ^ 16 → header_bytes entry m ≡ header_bytes entry n
unfolding header_bytes
same_header entry m n h =
    ap (λ (b : List ℕ). identification ++ (0 ∷ 0 ∷ 0 ∷ 0 ∷ 0 ∷ 0 ∷ 0 ∷ 0 ∷ 0 ∷ []) ++ half 2 ++ half 8 ++ word 1 ++ word entry ++ word 52 ++ word 0 ++ word 0 ++ half 52 ++ half 32 ++ b ++ half 0 ++ half 0 ++ half 0) (same_half m n h)

-- a program header with the lowest bits of an offset
pub same_program_header : (m n : ℕ) (s : Segment) → m % 2 ^ 32 ≡ n % 2 ^ 32 → program_header_bytes m s ≡ program_header_bytes n s
unfolding program_header_bytes
same_program_header m n s h =
    ap (λ (b : List ℕ). word 1 ++ b ++ word s.address ++ word 0 ++ word (length s.bytes.items) ++ word s.size ++ word 0 ++ word 0) (same_word m n h)

-- a table with the lowest bits of its first offset
pub same_table : (m n : ℕ) (ss : List Segment) → m % 2 ^ 32 ≡ n % 2 ^ 32 → table_bytes m ss ≡ table_bytes n ss
same_table m n [] h = refl
same_table m n (s ∷ ss) h =
    let head = same_program_header m n s h in
    let rest = same_table (m + length s.bytes.items) (n + length s.bytes.items) ss (omega arith) in
    cc

-- one program header more is written
pub table_more : (file new : List ℕ) (offset next i : ℕ) (ss : List Segment) (s : Segment) (all : List ℕ) → i < length ss → s ≡ get_or ss i s → new ≡ file ++ program_header_bytes offset s → next % 2 ^ 32 ≡ (offset + length s.bytes.items) % 2 ^ 32 → file ++ table_bytes offset (drop i ss) ≡ all → new ++ table_bytes next (drop (i + 1) ss) ≡ all
table_more file new offset next i ss s all h is written low before =
    let rest = drop (i + 1) ss in
    let split : table_bytes offset (drop i ss) ≡ program_header_bytes offset s ++ table_bytes (offset + length s.bytes.items) rest =
    at_drop_more (table_bytes offset) ss i s h ∙ ap (λ (t : Segment). table_bytes offset (t ∷ rest)) (sym is) in
    let joined : new ++ table_bytes next rest ≡ (file ++ program_header_bytes offset s) ++ table_bytes (offset + length s.bytes.items) rest =
    ap (λ (b : List ℕ). b ++ table_bytes next rest) written ∙ ap (λ (b : List ℕ). (file ++ program_header_bytes offset s) ++ b) (same_table next (offset + length s.bytes.items) rest low) in
    joined ∙ append_assoc file (program_header_bytes offset s) (table_bytes (offset + length s.bytes.items) rest) ∙ ap (λ (b : List ℕ). file ++ b) (sym split) ∙ before
