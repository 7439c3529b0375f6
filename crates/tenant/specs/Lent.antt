-- What the moves of one guest's pages are lent, and what they leave of the swap store.
use Rattle.std.specs.Prelude.{◌≡◌, ℕ, ◌<◌, List, [], ◌∷◌, Option, length}
use Rattle.frames.specs.Counts.{count_of}
use Rattle.frames.specs.FreeList.{FreeList}
use Rattle.sharetab.specs.Entries.{EntriesAre}
use Rattle.guest_pages.specs.declared.page.Page.{Page}
use Rattle.guest_pages.specs.declared.page.PageKind.TheVariants.{Swapped}
use Rattle.guest_pages.specs.Pages.{page_at, kind_at, slot_of, handed_back}
use Rattle.guest_pages.specs.Holdings.{slots_held}
use Rattle.page_moves.specs.Moves.{MovesFrames, Covered, OwnOnce}
use Rattle.page_moves.specs.Returns.{IsOut}
use Rattle.tenant.specs.declared.moves.EvictError.{EvictError}
use Rattle.tenant.specs.declared.moves.EvictError.TheVariants.{NoSwap, SwapWrite}

-- What exact books say of the pages of one guest, with what lies around them: what its pages hold is out, its frames and slots
-- are no others', and of `slots` slots each that is free is nobody's.
pub record Lent (slots : ℕ) (pages : List Page) (pool book : FreeList) (entries : EntriesAre) : Type 0 where
  pub covered : Covered entries pages
  pub own_once : OwnOnce entries pages
  pub page_out : (p : ℕ) → p < length pages → IsOut pool book entries (handed_back (page_at pages p))
  pub frame_out : (pages' : List Page) (entries' : EntriesAre) (number : ℕ) → MovesFrames pages pool entries pages' pool entries' (number ∷ []) → 0 < pool.out
  pub slot_out : (p : ℕ) → p < length pages → kind_at pages p ≡ Swapped → 0 < book.out
  pub its_slot : (p : ℕ) → p < length pages → kind_at pages p ≡ Swapped → slot_of (page_at pages p) < slots
  pub slot_apart : (slot : ℕ) → 0 < count_of slot book.free → slots_held slot pages ≡ 0
  pub slot_inside : (slot : ℕ) → 0 < count_of slot book.free → slot < slots

-- what was last written to each slot that isn't free stays
abbrev pub UsedStay : FreeList → (ℕ → Option (List ℕ)) → (ℕ → Option (List ℕ)) → Type 0
UsedStay book old new = (slot : ℕ) → count_of slot book.free ≡ 0 → new slot ≡ old slot

-- why a page stays in its frame: no slot exactly where none is free, else the store failed to write one
abbrev pub WhyStays : FreeList → Type 0 → EvictError → Type 0
WhyStays book failed NoSwap = book.free ≡ []
WhyStays book failed SwapWrite = (0 < length book.free) × failed
