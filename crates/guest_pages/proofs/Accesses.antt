-- An access to the page that a call found: `pages` are those in the map, `now` what is seen of them.
use Rattle.std.proofs.Common.{ℕ, ◌≡◌, ◌*◌, ◌%◌, ◌<◌, List, length, get_or, set, refl, sym, ap, ◌∙◌, arith, slice_index}
use Rattle.std.proofs.lemmas.List.{get_or_read_under}
use Rattle.frames.specs.Frames.{FrameIs}
use Rattle.word32.specs.Pages.{page_number, page_offset}
use Rattle.word32.specs.Words.{half_in, with_half, word_in, with_word}
use Rattle.word32.specs.Zeros.{zeros}
use Rattle.guest_pages.specs.declared.page.Page.{Page}
use Rattle.guest_pages.specs.declared.page.Page.TheVariants.{Zero, Private}
use Rattle.guest_pages.specs.Pages.{page_at, shown, memory_of, AreWhole}
use Rattle.guest_pages.specs.Outline.{outlined, outline}
use Rattle.guest_pages.proofs.Bytes.{byte_of_zeros, number_of_zeros}
use Rattle.guest_pages.proofs.Memory.{byte_read, half_read, word_read, byte_written, half_written, word_written}
use Rattle.std.proofs.Math.Seq.{map-set_same}

-- the page at place p is that of the address, and j the place of the address in it
pub record Reaches (now pages : List Page) (p at j : ℕ) (page : Page) : Type 0 where
  pub seen : pages ≡ now
  pub whole : AreWhole pages
  pub there : at < length now * 4096
  pub number : p ≡ page_number at
  pub offset : j ≡ page_offset at
  pub found : page ≡ get_or pages p page

inside : (now pages : List Page) (p at j : ℕ) (page : Page) → Reaches now pages p at j page → at < length pages * 4096
inside now pages p at j page r = let n = r.there in omega (arith, n, ap length r.seen)

found_page : (now pages : List Page) (p at j : ℕ) (page : Page) → Reaches now pages p at j page → page ≡ page_at pages (page_number at)
found_page now pages p at j page r =
    let h = inside now pages p at j page r in
    let there : p < length pages = omega (arith, h, r.number) in
    get_or_read_under pages p (length pages) page Zero r.found there refl ∙ ap (page_at pages) r.number

-- ---- reads

pub byte_found : (now pages : List Page) (p at j : ℕ) (page : Page) → Reaches now pages p at j page → slice_index (shown page) j ≡ slice_index (memory_of now) at
byte_found now pages p at j page r =
    ap (λ q. slice_index (shown q) j) (found_page now pages p at j page r)
    ∙ ap (slice_index (shown (page_at pages (page_number at)))) r.offset
    ∙ sym (byte_read pages at r.whole (inside now pages p at j page r))
    ∙ ap (λ all. slice_index (memory_of all) at) r.seen

pub half_found : (now pages : List Page) (p at j : ℕ) (page : Page) → at % 2 ≡ 0 → Reaches now pages p at j page → half_in (shown page) j ≡ half_in (memory_of now) at
half_found now pages p at j page aligned r =
    ap (λ q. half_in (shown q) j) (found_page now pages p at j page r)
    ∙ ap (half_in (shown (page_at pages (page_number at)))) r.offset
    ∙ sym (half_read pages at r.whole (inside now pages p at j page r) aligned)
    ∙ ap (λ all. half_in (memory_of all) at) r.seen

pub word_found : (now pages : List Page) (p at j : ℕ) (page : Page) → at % 4 ≡ 0 → Reaches now pages p at j page → word_in (shown page) j ≡ word_in (memory_of now) at
word_found now pages p at j page aligned r =
    ap (λ q. word_in (shown q) j) (found_page now pages p at j page r)
    ∙ ap (word_in (shown (page_at pages (page_number at)))) r.offset
    ∙ sym (word_read pages at r.whole (inside now pages p at j page r) aligned)
    ∙ ap (λ all. word_in (memory_of all) at) r.seen

-- a page that shows zeros

pub zero_byte_found : (now pages : List Page) (p at j : ℕ) (page : Page) → shown page ≡ zeros 4096 → Reaches now pages p at j page → slice_index (memory_of now) at ≡ 0
zero_byte_found now pages p at j page none r = sym (byte_found now pages p at j page r) ∙ ap (λ bytes. slice_index bytes j) none ∙ byte_of_zeros 4096 j

pub zero_half_found : (now pages : List Page) (p at j : ℕ) (page : Page) → shown page ≡ zeros 4096 → at % 2 ≡ 0 → Reaches now pages p at j page → half_in (memory_of now) at ≡ 0
zero_half_found now pages p at j page none aligned r = sym (half_found now pages p at j page aligned r) ∙ ap (λ bytes. half_in bytes j) none ∙ number_of_zeros 2 4096 j

pub zero_word_found : (now pages : List Page) (p at j : ℕ) (page : Page) → shown page ≡ zeros 4096 → at % 4 ≡ 0 → Reaches now pages p at j page → word_in (memory_of now) at ≡ 0
zero_word_found now pages p at j page none aligned r = sym (word_found now pages p at j page aligned r) ∙ ap (λ bytes. word_in bytes j) none ∙ number_of_zeros 4 4096 j

-- ---- writes

pub byte_stored : (now pages : List Page) (p at j byte : ℕ) (old page : Page) → Reaches now pages p at j old
    → shown page ≡ set (shown old) j byte → memory_of (set pages p page) ≡ set (memory_of now) at byte
byte_stored now pages p at j byte old page r is =
    ap (λ k. memory_of (set pages k page)) r.number
    ∙ byte_written pages at byte page r.whole (inside now pages p at j old r)
    (is ∙ ap (λ q. set (shown q) j byte) (found_page now pages p at j old r) ∙ ap (λ k. set (shown (page_at pages (page_number at))) k byte) r.offset)
    ∙ ap (λ all. set (memory_of all) at byte) r.seen

pub half_stored : (now pages : List Page) (p at j half : ℕ) (old page : Page) → at % 2 ≡ 0 → Reaches now pages p at j old
    → shown page ≡ with_half (shown old) j half → memory_of (set pages p page) ≡ with_half (memory_of now) at half
half_stored now pages p at j half old page aligned r is =
    ap (λ k. memory_of (set pages k page)) r.number
    ∙ half_written pages at half page r.whole (inside now pages p at j old r) aligned
    (is ∙ ap (λ q. with_half (shown q) j half) (found_page now pages p at j old r) ∙ ap (λ k. with_half (shown (page_at pages (page_number at))) k half) r.offset)
    ∙ ap (λ all. with_half (memory_of all) at half) r.seen

pub word_stored : (now pages : List Page) (p at j word : ℕ) (old page : Page) → at % 4 ≡ 0 → Reaches now pages p at j old
    → shown page ≡ with_word (shown old) j word → memory_of (set pages p page) ≡ with_word (memory_of now) at word
word_stored now pages p at j word old page aligned r is =
    ap (λ k. memory_of (set pages k page)) r.number
    ∙ word_written pages at word page r.whole (inside now pages p at j old r) aligned
    (is ∙ ap (λ q. with_word (shown q) j word) (found_page now pages p at j old r) ∙ ap (λ k. with_word (shown (page_at pages (page_number at))) k word) r.offset)
    ∙ ap (λ all. with_word (memory_of all) at word) r.seen

-- a frame with other bytes changes no outline
pub outline_stored : (now pages : List Page) (p : ℕ) (frame : FrameIs) (bytes : List ℕ) (old : Page) → pages ≡ now → old ≡ get_or pages p old → old ≡ Private frame
    → outline (set pages p (Private (record { number = frame.number; bytes = bytes }))) ≡ outline now
outline_stored now pages p frame bytes old seen found is =
    map-set_same outlined pages p (Private (record { number = frame.number; bytes = bytes })) old (sym (ap outlined is) ∙ ap outlined found) ∙ ap outline seen
