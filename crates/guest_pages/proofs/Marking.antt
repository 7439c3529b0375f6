-- The bits of words, and of a list of words.
use Rattle.std.proofs.Common.{ℕ, ◌≡◌, ◌+◌, ◌-◌, ◌*◌, ◌/◌, ◌%◌, ◌^◌, ◌<◌, ◌≤◌, List, length, set, replicate, slice_index, inl, inr, arith, sym, ap, ◌∙◌, length-set}
use Rattle.std.specs.Int.{bit_at}
use Rattle.std.proofs.lemmas.Bool.{cases_lt, cases_eq}
use Rattle.std.proofs.lemmas.Nat.{shr-shr}
use Rattle.std.proofs.lemmas.Nat.Bits.{bit_at-zero, bit_at_above, same_from_bits_below}
use Rattle.std.proofs.lemmas.List.{get_or-replicate, get_or_past, length-replicate}
use Rattle.guest_pages.specs.declared.page.Page.{Page}
use Rattle.guest_pages.specs.declared.page.Page.TheVariants.{Zero}
use Rattle.guest_pages.specs.Pages.{page_at, kind_of, is_resident}
use Rattle.guest_pages.specs.Marks.{bit_of, bit_in, NoneMarked, AreSummed, AreMarked}
use Rattle.guest_pages.proofs.Replacing.{new_page, other_page}

-- a bit of a word that is moved to the right
pub bit_moved : (n from i : ℕ) → bit_at (n / 2 ^ from) i ≡ bit_at n (from + i)
bit_moved n from i = ap (λ k. k % 2) (shr-shr n from i)

-- a bit that is passed over by less than the whole move
pub bit_from : (n from j : ℕ) → from ≤ j → bit_at n j ≡ bit_at (n / 2 ^ from) (j - from)
bit_from n from j h =
    let place : from + (j - from) ≡ j = omega arith in
    ap (bit_at n) (sym place) ∙ sym (bit_moved n from (j - from))

-- nothing is left of a word, so no bit is set
pub none_left : (n from j : ℕ) → n / 2 ^ from ≡ 0 → from ≤ j → bit_at n j ≡ 0
none_left n from j empty h = bit_from n from j h ∙ ap (λ m. bit_at m (j - from)) empty ∙ bit_at-zero (j - from)

-- a bit that is set is within its word
pub within_word : (n i : ℕ) → n < 2 ^ 64 → bit_at n i ≡ 1 → i < 64
within_word n i small one = elim (cases_lt i 64) [
  | inl h ↦ h
  | inr h ↦ let zero : bit_at n i ≡ 0 = bit_at_above n 64 i small h in absurd (omega arith)
]

-- a word none of whose bits is set
pub empty_word : (n : ℕ) → n < 2 ^ 64 → ((j : ℕ) → 0 ≤ j → j < 64 → bit_at n j ≡ 0) → n ≡ 0
empty_word n small none = same_from_bits_below 64 n 0 small (omega arith) (λ j h. none j (omega arith) h ∙ sym (bit_at-zero j))

-- ---- a search

-- a search that passes over what is left of one word, over words of which none has a bit set, and over a part of the word that it stops at
pub passed : (words upper : List ℕ) (from word bit : ℕ) → AreSummed words upper → bit < 64
    → ((j : ℕ) → from % 64 ≤ j → j < 64 → bit_at (slice_index words (from / 64)) j ≡ 0)
    → NoneMarked upper (from / 64 + 1) word
    → ((j : ℕ) → 0 ≤ j → j < bit → bit_at (slice_index words word) j ≡ 0)
    → NoneMarked words from (word * 64 + bit)
passed words upper from word bit summed small own between last = λ p h below. elim (cases_eq (p / 64) (from / 64)) [
  | inl same ↦ ap (λ k. bit_at (slice_index words k) (p % 64)) same ∙ own (p % 64) (omega arith) (omega arith)
  | inr other ↦ elim (cases_lt (p / 64) word) [
    | inl less ↦
        let unset : bit_in upper (p / 64) ≡ 0 = between (p / 64) (omega arith) less in
        let empty : slice_index words (p / 64) ≡ 0 = omega (arith, summed.sums (p / 64), unset) in
        ap (λ n. bit_at n (p % 64)) empty ∙ bit_at-zero (p % 64)
    | inr more ↦
        let same : p / 64 ≡ word = omega arith in
        ap (λ k. bit_at (slice_index words k) (p % 64)) same ∙ last (p % 64) (omega arith) (omega arith)
  ]
]

-- ---- the pages of a map

no_word : (n k : ℕ) → slice_index (replicate n 0) k ≡ 0
no_word n k = elim (cases_lt k n) [
  | inl h ↦ get_or-replicate n k 0 0 h
  | inr h ↦ get_or_past (replicate n 0) k 0 (omega (arith, length-replicate {A = ℕ} n 0))
]

untouched : (n p : ℕ) → page_at (replicate n Zero) p ≡ Zero
untouched n p = elim (cases_lt p n) [
  | inl h ↦ get_or-replicate n p Zero Zero h
  | inr h ↦ get_or_past (replicate n Zero) p Zero (omega (arith, length-replicate n Zero))
]

-- pages that were never touched
pub none_marked : (n : ℕ) → AreMarked (replicate n Zero) (replicate (n / 64 + 1) 0)
none_marked n = record {
  bits = λ p. ap (λ word. bit_at word (p % 64)) (no_word (n / 64 + 1) (p / 64)) ∙ bit_at-zero (p % 64) ∙ sym (ap (λ page. bit_of (is_resident (kind_of page))) (untouched n p));
  room = omega (arith, length-replicate n Zero, length-replicate {A = ℕ} (n / 64 + 1) 0);
}

-- a page is replaced, and its bit
pub marked_set : (pages : List Page) (old new : List ℕ) (p : ℕ) (page : Page) → p < length pages → AreMarked pages old
    → bit_in new p ≡ bit_of (is_resident (kind_of page))
    → ((q : ℕ) → (q ≡ p → ⊥) → bit_in new q ≡ bit_in old q)
    → length new ≡ length old
    → AreMarked (set pages p page) new
marked_set pages old new p page h marked same others long = record {
  bits = λ q. elim (cases_eq q p) [
    | inl e ↦ ap (bit_in new) e ∙ same ∙ sym (ap (λ one. bit_of (is_resident (kind_of one))) (ap (page_at (set pages p page)) e ∙ new_page pages p page h))
    | inr apart ↦ others q apart ∙ marked.bits q ∙ sym (ap (λ one. bit_of (is_resident (kind_of one))) (other_page pages p q page apart))
  ];
  room = omega (arith, marked.room, length-set pages p page, long);
}
