-- Which page of a guest leaves its frame.
use Rattle.std.specs.Prelude.{◌≡◌, ℕ, ◌<◌, ◌≤◌, ◌⊎◌, Bool, true, false, ◌==◌, ◌&&◌, ◌||◌, not, if◌then◌else◌, List, Option, Some, None, length}
use Rattle.guest_pages.specs.declared.page.Page.{Page}
use Rattle.guest_pages.specs.Pages.{kind_at, is_resident}
use Rattle.victims.specs.declared.spared.Spared.{Spared}

-- whether a page is one of two
abbrev pub is_one_of : Option (ℕ × ℕ) → ℕ → Bool
is_one_of None p = false
is_one_of (Some pages) p = pages.0 == p || pages.1 == p

-- the pages of a guest that are spared
abbrev pub spared_of : Option Spared → ℕ → Option (ℕ × ℕ)
spared_of None g = None
spared_of (Some spared) g = if spared.guest == g then Some spared.pages else None

-- whether a page may leave its frame: it is in one, and is not spared
abbrev pub may_leave : Option (ℕ × ℕ) → List Page → ℕ → Bool
may_leave spared pages p = is_resident (kind_at pages p) && not (is_one_of spared p)

-- no page from one number on to below another is in a frame, but for those that are spared
abbrev pub NoneResident : Option (ℕ × ℕ) → List Page → ℕ → ℕ → Type 0
NoneResident spared pages from to = (p : ℕ) → from ≤ p → p < to → may_leave spared pages p ≡ false

-- the first page at or after a place that is in a frame and is not spared, going round
pub record IsNextResident (spared : Option (ℕ × ℕ)) (pages : List Page) (start p : ℕ) : Type 0 where
  pub there : p < length pages
  pub leaves : may_leave spared pages p ≡ true
  pub first : ((start ≤ p) × NoneResident spared pages start p) ⊎ ((p < start) × NoneResident spared pages start (length pages) × NoneResident spared pages 0 p)
