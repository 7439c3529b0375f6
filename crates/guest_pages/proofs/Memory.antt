-- The memory before a page, the page and the memory after it; so an access is one to the page that it reaches.
use Rattle.std.proofs.Common.{ℕ, suc, ◌≡◌, ◌+◌, ◌*◌, ◌%◌, ◌<◌, ◌≤◌, IsTrue, List, [], ◌∷◌, ◌++◌, length, get_or, set, take, drop, refl, sym, ap, ◌∙◌, arith, length-append, length-take-le}
use Rattle.std.proofs.lemmas.List.{set_split, set-get_or}
use Rattle.std.proofs.lemmas.List.Elements.{All-head, All-tail, All-take, All-get_or}
use Rattle.std.proofs.lemmas.Grind.{flat_map-append}
use Rattle.byteorder.specs.Endian.{little_number, little_bytes}
use Rattle.word32.specs.Pages.{page_number, page_offset}
use Rattle.word32.specs.Words.{patched, half_in, with_half, word_in, with_word}
use Rattle.word32.specs.Zeros.{zeros}
use Rattle.guest_pages.specs.declared.page.Page.{Page}
use Rattle.guest_pages.specs.declared.page.Page.TheVariants.{Zero, Given, Private, Shared, Swapped}
use Rattle.guest_pages.specs.Pages.{page_at, kind_of, kind_at, is_resident, shown, memory_of, AreWhole}
use Rattle.guest_pages.proofs.Bytes.{byte_of_zeros, number_of_zeros}
use Rattle.guest_pages.proofs.Parts.{byte_between, number_between, set_between, patched_between}

abbrev pub HasPageLength : Page → Type 0
HasPageLength page = length (shown page) ≡ 4096

pub length_of_memory : (pages : List Page) → AreWhole pages → length (memory_of pages) ≡ length pages * 4096
length_of_memory [] whole = refl
length_of_memory (page ∷ pages) whole =
    let first = All-head HasPageLength page pages whole in
    let rest = length_of_memory pages (All-tail HasPageLength page pages whole) in
    omega (arith, first, rest, length-append (shown page) (memory_of pages))

pub length_of_page : (pages : List Page) (p : ℕ) → AreWhole pages → p < length pages → length (shown (page_at pages p)) ≡ 4096
length_of_page pages p whole h = All-get_or HasPageLength pages p Zero h whole

-- ---- the memory around a page

abbrev pub before : List Page → ℕ → List ℕ
before pages p = memory_of (take p pages)

abbrev pub after : List Page → ℕ → List ℕ
after pages p = memory_of (drop (suc p) pages)

pub length_before : (pages : List Page) (p : ℕ) → AreWhole pages → p < length pages → length (before pages p) ≡ p * 4096
length_before pages p whole h =
    length_of_memory (take p pages) (All-take HasPageLength p pages whole) ∙ ap (λ n. n * 4096) (length-take-le p pages (omega arith))

pub around_new : (pages : List Page) (p : ℕ) (page : Page) → p < length pages → memory_of (set pages p page) ≡ before pages p ++ (shown page ++ after pages p)
around_new pages p page h = ap memory_of (set_split pages p page h) ∙ flat_map-append shown (take p pages) (page ∷ drop (suc p) pages)

pub around : (pages : List Page) (p : ℕ) → p < length pages → memory_of pages ≡ before pages p ++ (shown (page_at pages p) ++ after pages p)
around pages p h = ap memory_of (sym (set-get_or pages p Zero)) ∙ around_new pages p (page_at pages p) h

-- ---- places

page_there : (pages : List Page) (at : ℕ) → at < length pages * 4096 → page_number at < length pages
page_there pages at h = omega arith

-- the place of an address, after the memory before its page
place : (pages : List Page) (at : ℕ) → AreWhole pages → page_number at < length pages → at ≡ length (before pages (page_number at)) + page_offset at
place pages at whole h = omega (arith, length_before pages (page_number at) whole h)

-- ---- reads

pub byte_read : (pages : List Page) (at : ℕ) → AreWhole pages → at < length pages * 4096
    → get_or (memory_of pages) at 0 ≡ get_or (shown (page_at pages (page_number at))) (page_offset at) 0
byte_read pages at whole h =
    let p = page_number at in
    let there = page_there pages at h in
    let within : page_offset at < length (shown (page_at pages p)) = omega (arith, length_of_page pages p whole there) in
    ap (λ bytes. get_or bytes at 0) (around pages p there)
    ∙ ap (λ k. get_or (before pages p ++ (shown (page_at pages p) ++ after pages p)) k 0) (place pages at whole there)
    ∙ byte_between (before pages p) (shown (page_at pages p)) (after pages p) (page_offset at) within

number_read : (n : ℕ) (pages : List Page) (at : ℕ) → AreWhole pages → page_number at < length pages → page_offset at + n ≤ 4096
    → little_number n (drop at (memory_of pages)) ≡ little_number n (drop (page_offset at) (shown (page_at pages (page_number at))))
number_read n pages at whole there fits =
    let p = page_number at in
    let within : page_offset at + n ≤ length (shown (page_at pages p)) = omega (arith, length_of_page pages p whole there) in
    ap (λ bytes. little_number n (drop at bytes)) (around pages p there)
    ∙ ap (λ k. little_number n (drop k (before pages p ++ (shown (page_at pages p) ++ after pages p)))) (place pages at whole there)
    ∙ number_between n (before pages p) (shown (page_at pages p)) (after pages p) (page_offset at) within

pub half_read : (pages : List Page) (at : ℕ) → AreWhole pages → at < length pages * 4096 → at % 2 ≡ 0
    → half_in (memory_of pages) at ≡ half_in (shown (page_at pages (page_number at))) (page_offset at)
half_read pages at whole h aligned = number_read 2 pages at whole (page_there pages at h) (omega arith)

pub word_read : (pages : List Page) (at : ℕ) → AreWhole pages → at < length pages * 4096 → at % 4 ≡ 0
    → word_in (memory_of pages) at ≡ word_in (shown (page_at pages (page_number at))) (page_offset at)
word_read pages at whole h aligned = number_read 4 pages at whole (page_there pages at h) (omega arith)

-- ---- reads of a page that is in no frame

pub away_is_zeros : (page : Page) → (IsTrue (is_resident (kind_of page)) → ⊥) → shown page ≡ zeros 4096
away_is_zeros Zero h = refl
away_is_zeros Given h = refl
away_is_zeros (Private frame) h = absurd (h refl)
away_is_zeros (Shared share ticket) h = absurd (h refl)
away_is_zeros (Swapped slot digest) h = refl

pub no_byte_read : (pages : List Page) (at : ℕ) → AreWhole pages → at < length pages * 4096 → (IsTrue (is_resident (kind_at pages (page_number at))) → ⊥)
    → get_or (memory_of pages) at 0 ≡ 0
no_byte_read pages at whole h away =
    byte_read pages at whole h
    ∙ ap (λ bytes. get_or bytes (page_offset at) 0) (away_is_zeros (page_at pages (page_number at)) away)
    ∙ byte_of_zeros 4096 (page_offset at)

pub no_half_read : (pages : List Page) (at : ℕ) → AreWhole pages → at < length pages * 4096 → at % 2 ≡ 0 → (IsTrue (is_resident (kind_at pages (page_number at))) → ⊥)
    → half_in (memory_of pages) at ≡ 0
no_half_read pages at whole h aligned away =
    half_read pages at whole h aligned
    ∙ ap (λ bytes. half_in bytes (page_offset at)) (away_is_zeros (page_at pages (page_number at)) away)
    ∙ number_of_zeros 2 4096 (page_offset at)

pub no_word_read : (pages : List Page) (at : ℕ) → AreWhole pages → at < length pages * 4096 → at % 4 ≡ 0 → (IsTrue (is_resident (kind_at pages (page_number at))) → ⊥)
    → word_in (memory_of pages) at ≡ 0
no_word_read pages at whole h aligned away =
    word_read pages at whole h aligned
    ∙ ap (λ bytes. word_in bytes (page_offset at)) (away_is_zeros (page_at pages (page_number at)) away)
    ∙ number_of_zeros 4 4096 (page_offset at)

-- ---- writes

pub byte_written : (pages : List Page) (at byte : ℕ) (page : Page) → AreWhole pages → at < length pages * 4096
    → shown page ≡ set (shown (page_at pages (page_number at))) (page_offset at) byte
    → memory_of (set pages (page_number at) page) ≡ set (memory_of pages) at byte
byte_written pages at byte page whole h is =
    let p = page_number at in
    let there = page_there pages at h in
    let within : page_offset at < length (shown (page_at pages p)) = omega (arith, length_of_page pages p whole there) in
    around_new pages p page there
    ∙ ap (λ bytes. before pages p ++ (bytes ++ after pages p)) is
    ∙ sym (set_between (before pages p) (shown (page_at pages p)) (after pages p) (page_offset at) byte within)
    ∙ ap (λ k. set (before pages p ++ (shown (page_at pages p) ++ after pages p)) k byte) (sym (place pages at whole there))
    ∙ ap (λ bytes. set bytes at byte) (sym (around pages p there))

pub bytes_written : (new : List ℕ) (n : ℕ) (pages : List Page) (at : ℕ) (page : Page) → AreWhole pages → page_number at < length pages → page_offset at + n ≤ 4096
    → shown page ≡ patched (shown (page_at pages (page_number at))) (page_offset at) new n
    → memory_of (set pages (page_number at) page) ≡ patched (memory_of pages) at new n
bytes_written new n pages at page whole there fits is =
    let p = page_number at in
    let within : page_offset at + n ≤ length (shown (page_at pages p)) = omega (arith, length_of_page pages p whole there) in
    around_new pages p page there
    ∙ ap (λ bytes. before pages p ++ (bytes ++ after pages p)) is
    ∙ sym (patched_between (before pages p) (shown (page_at pages p)) (after pages p) new (page_offset at) n within)
    ∙ ap (λ k. patched (before pages p ++ (shown (page_at pages p) ++ after pages p)) k new n) (sym (place pages at whole there))
    ∙ ap (λ bytes. patched bytes at new n) (sym (around pages p there))

pub half_written : (pages : List Page) (at half : ℕ) (page : Page) → AreWhole pages → at < length pages * 4096 → at % 2 ≡ 0
    → shown page ≡ with_half (shown (page_at pages (page_number at))) (page_offset at) half
    → memory_of (set pages (page_number at) page) ≡ with_half (memory_of pages) at half
half_written pages at half page whole h aligned is = bytes_written (little_bytes 2 half) 2 pages at page whole (page_there pages at h) (omega arith) is

pub word_written : (pages : List Page) (at word : ℕ) (page : Page) → AreWhole pages → at < length pages * 4096 → at % 4 ≡ 0
    → shown page ≡ with_word (shown (page_at pages (page_number at))) (page_offset at) word
    → memory_of (set pages (page_number at) page) ≡ with_word (memory_of pages) at word
word_written pages at word page whole h aligned is = bytes_written (little_bytes 4 word) 4 pages at page whole (page_there pages at h) (omega arith) is
