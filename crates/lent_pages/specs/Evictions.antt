-- Why a page stays in its frame.
use Rattle.std.specs.Prelude.{◌≡◌, List, []}
use Rattle.frames.specs.FreeList.{FreeList}
use Rattle.sharetab.specs.Entries.{EntriesAre}
use Rattle.guest_pages.specs.declared.page.Page.{Page}
use Rattle.accounts.specs.declared.account.Extent.{Extent}
use Rattle.accounts.specs.OwnerShares.{ExactWith}
use Rattle.lent_pages.specs.declared.evicting.EvictError.{EvictError}
use Rattle.lent_pages.specs.declared.evicting.EvictError.TheVariants.{NoSwap, SwapWrite}

-- the books of these pages, with those of other guests and what lay around them, had no free slot
pub record NoSlotWasFree (extent : Extent) (pages : List Page) : Type 0 where
  pub entries : EntriesAre
  pub pool : FreeList
  pub book : FreeList
  pub exact : ExactWith extent pages [] entries pool book
  pub none : book.free ≡ []

-- no slot was free, or the store failed to write one
abbrev pub WhyStays : Type 0 → Type 0 → EvictError → Type 0
WhyStays none_free failed NoSwap = none_free
WhyStays none_free failed SwapWrite = failed
