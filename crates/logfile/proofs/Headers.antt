-- The header of a file, its fields, and what stands behind it.
use Rattle.std.proofs.Common.{◌≡◌, ℕ, ◌+◌, ◌<◌, ◌≤◌, ◌^◌, inl, inr, lit≤, List, ◌++◌, length, take, drop, sym, ap, ◌∙◌, length-drop, append_assoc, arith}
use Rattle.std.specs.Int.{from_le_bytes, w32}
use Rattle.std.proofs.lemmas.Nat.{le_bytes_4, from_le_bytes-to_le_bytes_4}
use Rattle.std.proofs.lemmas.List.{length-take, length-take-le, take-take, take-append-drop, drop-take, drop-drop}
use Rattle.logfile.specs.FileItems.{word, body_bytes}
use Rattle.logfile.specs.Files.{magic, header_bytes, IsPages, HasHeader, HasEntries, StandsFor}
use Rattle.logfile.specs.Faults.{number_of, magic_in, pages_in, digest_in, Fails}
use Rattle.logfile.specs.declared.fault.LogFault.{LogFault}
use Rattle.logfile.specs.declared.fault.LogFault.TheVariants as fault
use Rattle.items.specs.declared.entry.Entry.{Entry}
use Rattle.std.proofs.Math.Seq.{take-append_seam, drop-append_seam}
use Rattle.logfile.proofs.Numbers.{IsBytes, take_fits, drop_fits}

-- the first m bytes, and the n behind them
take_parts : (m n : ℕ) (bytes : List ℕ) → take (m + n) bytes ≡ take m bytes ++ take n (drop m bytes)
take_parts m n bytes =
    let front = take-take m (m + n) bytes (omega arith) in
    let behind = drop-take m n bytes in
    sym (take-append-drop m (take (m + n) bytes)) ∙ cc

-- the fields one after the other
pub fields_of_header : (file : List ℕ) → take 40 file ≡ take 4 file ++ take 4 (drop 4 file) ++ take 32 (drop 8 file)
fields_of_header file =
    take_parts 4 36 file ∙ ap (λ (l : List ℕ). take 4 file ++ l) (take_parts 4 32 (drop 4 file))
    ∙ sym (append_assoc (take 4 file) (take 4 (drop 4 file)) (take 32 (drop 4 (drop 4 file))))
    ∙ ap (λ (l : List ℕ). (take 4 file ++ take 4 (drop 4 file)) ++ take 32 l) (drop-drop 4 4 file)

pub header_found : (file digest : List ℕ) (pages : ℕ) → 40 ≤ length file → IsBytes file → length digest ≡ 32 → take 4 file ≡ magic → pages ≡ pages_in file → 2 ≤ pages → pages ≤ 16384 → digest_in file ≡ digest → HasHeader file digest pages
unfolding header_bytes
header_found file digest pages long fits whole same count least most of =
    let four : length (take 4 (drop 4 file)) ≡ 4 = length-take-le 4 (drop 4 file) (omega (arith, length-drop 4 file)) in
    let number : word pages ≡ take 4 (drop 4 file) = le_bytes_4 (take 4 (drop 4 file)) pages four (take_fits 4 (drop 4 file) (drop_fits 4 file fits)) count in
    record {
      bytes = fields_of_header file ∙ cc;
      whole = whole;
      range = record { least = least; most = most };
    }

-- what a header's fields are
length-header_bytes : (pages : ℕ) (digest : List ℕ) → length digest ≡ 32 → length (header_bytes pages digest) ≡ 40
unfolding header_bytes
length-header_bytes pages digest whole = omega arith

fields_found : (file digest : List ℕ) (pages : ℕ) → take 40 file ≡ header_bytes pages digest → pages < 2 ^ 32 → (magic_in file ≡ magic) × (pages_in file ≡ pages) × (digest_in file ≡ digest)
unfolding header_bytes
fields_found file digest pages h fits =
    let front : magic_in file ≡ magic = sym (take-take 4 40 file (lit≤ tt)) ∙ ap (take 4) h in
    let number : take 4 (drop 4 file) ≡ word pages = sym (drop-take 4 4 file) ∙ ap (drop 4) (sym (take-take 8 40 file (lit≤ tt)) ∙ ap (take 8) h) in
    let rest : digest_in file ≡ digest = sym (drop-take 8 32 file) ∙ ap (drop 8) h in
    (front, ap (from_le_bytes w32) number ∙ from_le_bytes-to_le_bytes_4 pages fits, rest)

pub stands : (file digest : List ℕ) (pages : ℕ) (entries : List Entry) → HasHeader file digest pages → HasEntries file entries → StandsFor file pages digest entries
stands file digest pages entries header has = record {
  bytes = sym (take-append-drop 40 file) ∙ ap (λ (l : List ℕ). l ++ drop 40 file) header.bytes ∙ ap (λ (l : List ℕ). header_bytes pages digest ++ l) has.bytes;
  whole = header.whole;
  each = has.each;
}

-- the first bytes of a whole are the part that it begins with, and the others what follows
pub front_of : (n : ℕ) (whole front rest : List ℕ) → whole ≡ front ++ rest → length front ≡ n → (take n whole ≡ front) × (drop n whole ≡ rest)
front_of n whole front rest is long = (
  ap (take n) is ∙ ap (λ (k : ℕ). take k (front ++ rest)) (sym long) ∙ take-append_seam front rest,
  ap (drop n) is ∙ ap (λ (k : ℕ). drop k (front ++ rest)) (sym long) ∙ drop-append_seam front rest,
)

parts_of : (file digest : List ℕ) (pages : ℕ) (entries : List Entry) → StandsFor file pages digest entries → (take 40 file ≡ header_bytes pages digest) × (drop 40 file ≡ body_bytes entries)
parts_of file digest pages entries for =
    front_of 40 file (header_bytes pages digest) (body_bytes entries) for.bytes (length-header_bytes pages digest for.whole)

pub has_header : (file digest : List ℕ) (pages : ℕ) (entries : List Entry) → IsPages pages → StandsFor file pages digest entries → HasHeader file digest pages
has_header file digest pages entries range for =
    record { bytes = (parts_of file digest pages entries for).0; whole = for.whole; range = range }

pub has_entries : (file digest : List ℕ) (pages : ℕ) (entries : List Entry) → StandsFor file pages digest entries → HasEntries file entries
has_entries file digest pages entries for = record { bytes = (parts_of file digest pages entries for).1; each = for.each }

-- no check of the header refuses a right one
long_enough : (file digest : List ℕ) (pages : ℕ) → HasHeader file digest pages → 40 ≤ length file
long_enough file digest pages header =
    omega (arith, ap length header.bytes, length-header_bytes pages digest header.whole, length-take 40 file)

right_header : (file digest : List ℕ) (pages : ℕ) → IsPages pages → (magic_in file ≡ magic) × (pages_in file ≡ pages) × (digest_in file ≡ digest) → Fails fault.Header file digest → ⊥
right_header file digest pages range found (inl other) = other found.0
right_header file digest pages range found (inr (inl few)) = absurd (omega (arith, found.1, range.least))
right_header file digest pages range found (inr (inr many)) = absurd (omega (arith, found.1, range.most))

pub no_header_fault : (file digest : List ℕ) (pages : ℕ) (f : LogFault) → HasHeader file digest pages → number_of f < 4 → Fails f file digest → ⊥
no_header_fault file digest pages fault.Short header early h =
    absurd (omega (arith, h, long_enough file digest pages header))
no_header_fault file digest pages fault.Header header early h =
    right_header file digest pages header.range (fields_found file digest pages header.bytes (omega (arith, header.range.most))) h
no_header_fault file digest pages fault.Image header early h =
    h (fields_found file digest pages header.bytes (omega (arith, header.range.most))).2
no_header_fault file digest pages fault.Body header early h = absurd (omega (arith, early))
no_header_fault file digest pages fault.Profile header early h = absurd (omega (arith, early))
