-- What becomes of a page that is to leave its frame.
use Rattle.std.specs.Prelude.{◌≡◌, ℕ, ◌≤◌, ◌<◌, true, false, List, All, length, slice_set}
use Rattle.world.specs.Below.{FreeList, Page, is_resident, kind_at, page_at, sha256, shown, slot_of}
use Rattle.guest_pages.specs.declared.page.Page.TheVariants.{Swapped}
use Rattle.world.specs.declared.world.Evicted.{Evicted}
use Rattle.world.specs.declared.world.Evicted.TheVariants.{Done, Skipped}

-- a page that was in a frame is in the slot of the lowest number that was free, and no other page has changed
pub record IsEvicted (p : ℕ) (old new : List Page) (slots : FreeList) : Type 0 where
  pub resident : is_resident (kind_at old p) ≡ true
  pub pages : new ≡ slice_set old p (Swapped (slot_of (page_at new p)) (sha256 (shown (page_at old p))))
  pub lowest : All (λ other. slot_of (page_at new p) ≤ other) slots.free

-- what has become of the page: one that isn't there or is in no frame is skipped, and nothing has changed
abbrev pub Became : ℕ → Evicted → List Page → List Page → FreeList → Type 0
Became p Done old new slots = IsEvicted p old new slots
Became p Skipped old new slots = (new ≡ old) × (p < length old → is_resident (kind_at old p) ≡ false)
