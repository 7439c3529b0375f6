-- What becomes of a page that gets a frame of its own, and why it gets none.
use Rattle.std.specs.Prelude.{◌≡◌, ℕ, ◌<◌, List, [], Option, length, slice_set}
use Rattle.sha2.specs.Sha256.{sha256}
use Rattle.frames.specs.FreeList.{FreeList}
use Rattle.swapstore.specs.Holding.{AreHeld}
use Rattle.guest_pages.specs.declared.page.Page.{Page}
use Rattle.guest_pages.specs.declared.page.Page.TheVariants.{Private}
use Rattle.guest_pages.specs.Pages.{page_at, own_frame, shown}
use Rattle.page_moves.specs.declared.supply.SupplyError.{SupplyError}
use Rattle.page_moves.specs.declared.supply.SupplyError.TheVariants.{NoFrame, Memory, SwapRead, SwapDamaged}

-- a page is in a frame of its own with these bytes, and no other page changed
pub record Supplies (old : List Page) (p : ℕ) (bytes : List ℕ) (new : List Page) : Type 0 where
  pub pages : new ≡ slice_set old p (Private (own_frame (page_at new p)))
  pub shows : shown (page_at new p) ≡ bytes

-- where a frame is asked for: no frame exactly where none is free
abbrev pub WantsFrame : FreeList → SupplyError → Type 0
WantsFrame pool NoFrame = pool.free ≡ []
WantsFrame pool Memory = 0 < length pool.free
WantsFrame pool SwapRead = ⊥
WantsFrame pool SwapDamaged = ⊥

-- bytes that a read may give have another SHA-256; those of an honest store are what was last written, if that is known
abbrev pub IsDamaged : (List ℕ → Type 0) → Type 0 → Option (List ℕ) → List ℕ → Type 0
IsDamaged gives honest held digest = (bytes : List ℕ) × gives bytes × (sha256 bytes ≡ digest → ⊥) × (honest → AreHeld held bytes)

-- where a slot is read: the read failed, or what was read is damaged
abbrev pub WhyUnread : Type 0 → Type 0 → SupplyError → Type 0
WhyUnread failed damaged NoFrame = ⊥
WhyUnread failed damaged Memory = ⊥
WhyUnread failed damaged SwapRead = failed
WhyUnread failed damaged SwapDamaged = damaged

-- why a page stays in its slot though a frame is in hand: a request for memory was refused, the read failed, or what was read is damaged
abbrev pub WhyStillAway : Type 0 → Type 0 → SupplyError → Type 0
WhyStillAway failed damaged NoFrame = ⊥
WhyStillAway failed damaged Memory = Unit {0}
WhyStillAway failed damaged SwapRead = failed
WhyStillAway failed damaged SwapDamaged = damaged

-- where a page in a slot gets a frame: one of both
abbrev pub WhyAway : FreeList → Type 0 → Type 0 → SupplyError → Type 0
WhyAway pool failed damaged NoFrame = pool.free ≡ []
WhyAway pool failed damaged Memory = 0 < length pool.free
WhyAway pool failed damaged SwapRead = (0 < length pool.free) × failed
WhyAway pool failed damaged SwapDamaged = (0 < length pool.free) × damaged
