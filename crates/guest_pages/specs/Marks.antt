-- Which pages are in a frame, kept as one bit for each number: 64 numbers in a word.
use Rattle.std.specs.Prelude.{◌≡◌, ℕ, ◌*◌, ◌/◌, ◌%◌, ◌<◌, ◌≤◌, Bool, true, false, List, length, min, slice_index}
use Rattle.std.specs.Int.{bit_at}
use Rattle.guest_pages.specs.declared.page.Page.{Page}
use Rattle.guest_pages.specs.Pages.{kind_at, is_resident}

abbrev pub bit_of : Bool → ℕ
bit_of true = 1
bit_of false = 0

-- the bit of a number
abbrev pub bit_in : List ℕ → ℕ → ℕ
bit_in words p = bit_at (slice_index words (p / 64)) (p % 64)

-- no number from one on to below another has its bit set
abbrev pub NoneMarked : List ℕ → ℕ → ℕ → Type 0
NoneMarked words from to = (p : ℕ) → from ≤ p → p < to → bit_in words p ≡ 0

-- the bits of the upper words say which of the words are not 0
pub record AreSummed (words upper : List ℕ) : Type 0 where
  pub sums : (k : ℕ) → bit_in upper k ≡ min 1 (slice_index words k)
  pub room : length words ≤ length upper * 64

-- the bit of each page says whether it is in a frame
pub record AreMarked (pages : List Page) (words : List ℕ) : Type 0 where
  pub bits : (p : ℕ) → bit_in words p ≡ bit_of (is_resident (kind_at pages p))
  pub room : length pages ≤ length words * 64
