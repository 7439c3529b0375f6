-- Which page leaves its frame so that another gets one.
use Rattle.std.specs.Prelude.{◌≡◌, ◌≢◌, ℕ, ◌%◌, ◌⊎◌, true, List, [], Option, Some, All, length, map, sum_by, slice_index_or}
use Rattle.world.specs.Below.{FreeList, IsEligible, IsNextResident, Spared, Stat, Stream, TenantIs, beside_pages, is_one_of, next_u32, page_at, pages_in, resident_pages, spared_of, stat_of, victim_of}
use Rattle.world.specs.Damage.{FindsDamage}
use Rattle.world.specs.Evictions.{IsEvicted}
use Rattle.world.specs.declared.faulting.FaultError.{FaultError}
use Rattle.world.specs.declared.faulting.FaultError.TheVariants.{NoFrame, NoSwap, SwapRead, SwapDamaged, Memory}
use Rattle.world.specs.Worlds.{StoreFacts, FailsOnce, WorldIs, Changes, PagesMove}

-- The victim of the guests has lost a page: the first resident one at or after the generator's next word modulo its pages, but for
-- those that are spared. No other page of any guest has moved.
pub record IsPolicys (tax : ℕ) (words : Stream) (spared : Option Spared) (tenants tenants' : List TenantIs) (slots : FreeList) : Type 0 where
  pub g : ℕ
  pub p : ℕ
  pub victim : victim_of tax (map stat_of tenants) ≡ Some g
  pub page : (t : TenantIs) → IsNextResident (spared_of spared g) (pages_in (slice_index_or tenants g t)) ((next_u32 words).0 % length (pages_in (slice_index_or tenants g t))) p
  pub evicted : (t : TenantIs) → IsEvicted p (pages_in (slice_index_or tenants g t)) (pages_in (slice_index_or tenants' g t)) slots
  pub others : Changes PagesMove g tenants tenants'

-- of the guests only pages have moved: their logs, and so their views, are as before, and each has as many pages
pub record OnlyPagesMove (tenants tenants' : List TenantIs) : Type 0 where
  pub beside : map beside_pages tenants' ≡ map beside_pages tenants
  pub counts : map (λ t. length (pages_in t)) tenants' ≡ map (λ t. length (pages_in t)) tenants

-- each page that is spared is as before
abbrev pub SparedStay : Option Spared → List TenantIs → List TenantIs → Type 0
SparedStay spared tenants tenants' = (t : TenantIs) (h q : ℕ) → is_one_of (spared_of spared h) q ≡ true →
    page_at (pages_in (slice_index_or tenants' h t)) q ≡ page_at (pages_in (slice_index_or tenants h t)) q

-- and so is each but for one page of one guest
abbrev pub OtherSparedStay : ℕ → ℕ → Option Spared → List TenantIs → List TenantIs → Type 0
OtherSparedStay g p spared tenants tenants' = (t : TenantIs) (h q : ℕ) → (h ≡ g → q ≢ p) → is_one_of (spared_of spared h) q ≡ true →
    page_at (pages_in (slice_index_or tenants' h t)) q ≡ page_at (pages_in (slice_index_or tenants h t)) q

-- how many pages of all guests are in frames
abbrev pub all_resident : List TenantIs → ℕ
all_resident tenants = sum_by (λ t. resident_pages (pages_in t)) tenants

-- Why a page that is needed has no frame. No frame is free, and the store failed to write a page or nobody is eligible; or no slot is
-- free either; or the store failed to read the page; or what it read is damaged; or a request for memory was refused.
abbrev pub WhyLacking : FreeList → FreeList → List Stat → Type 0 → Type 0 → FaultError → Type 0
WhyLacking pool slots stats failed damaged NoFrame = (pool.free ≡ []) × (failed ⊎ All (λ s. ¬ IsEligible s) stats)
WhyLacking pool slots stats failed damaged NoSwap = (pool.free ≡ []) × (slots.free ≡ [])
WhyLacking pool slots stats failed damaged SwapRead = failed
WhyLacking pool slots stats failed damaged SwapDamaged = damaged
WhyLacking pool slots stats failed damaged Memory = Unit {0}

-- why a page of a guest that was needed for this has no frame, for a reason that `WhyLacking` has
abbrev pub WhyUnsupplied : {Kept : Type 0} → StoreFacts Kept → ℕ → (ℕ → Type 0) → WorldIs Kept → WorldIs Kept → FaultError → Type 0
WhyUnsupplied facts g IsFor w w' =
    WhyLacking w'.pool w'.slots (map stat_of w'.tenants) (FailsOnce facts w w') (FindsDamage facts g IsFor w w')
