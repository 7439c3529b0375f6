-- Pages that are damaged in their slots.
use Rattle.std.specs.Prelude.{◌≡◌, ℕ, Some, List, Contains, map, slice_index_or}
use Rattle.world.specs.Below.{IsDamaged, Page, SomePlaceIn, TenantIs, Why, accesses, digest_of, page_at, pages_in, slot_of, standing}
use Rattle.machine.specs.Accesses.{Access}
use Rattle.world.specs.Worlds.{StoreFacts, WorldIs, StoreStays, IsSoundWorld, guest_at, view_at, needed_by}

-- bytes that a store may give for the slot of a page have another SHA-256 than the page
abbrev pub IsDamagedPage : {Kept : Type 0} → StoreFacts Kept → Kept → Page → Type 0
IsDamagedPage facts store page =
    IsDamaged (facts.gives store (slot_of page)) (facts.honest store) (facts.held store (slot_of page)) (digest_of page)

-- a page of a guest is damaged, and so the store isn't honest
pub record HasDamage {Kept : Type 0} (facts : StoreFacts Kept) (store : Kept) (tenants : List TenantIs) (g p : ℕ) : Type 0 where
  pub damaged : (t : TenantIs) → IsDamagedPage facts store (page_at (pages_in (slice_index_or tenants g t)) p)
  pub dishonest : facts.honest store → ⊥

-- A page of a guest that was needed for this is damaged: it is in the world as that is afterwards, but for the store, which is the one that
-- the page was read from. Before the read, pages that left their frames may have been written to it, and no call of it had failed; since
-- then no page has moved.
pub record FindsDamage {Kept : Type 0} (facts : StoreFacts Kept) (g : ℕ) (IsFor : ℕ → Type 0) (w w' : WorldIs Kept) : Type 0 where
  pub p : ℕ
  pub needed : IsFor p
  pub store : Kept
  pub stays : StoreStays facts w.store store
  pub no_failure : facts.failed store ≡ facts.failed w.store
  pub sound : IsSoundWorld facts (record w' { store = store })
  pub damage : HasDamage facts store w'.tenants g p

-- ---- for what a page is needed

-- a guest's next step needs it, where the store is true to digests
abbrev pub IsNeeded : {Kept : Type 0} → StoreFacts Kept → WorldIs Kept → ℕ → ℕ → Type 0
IsNeeded facts w g p = facts.true_to_digests w.store → (t : TenantIs) → (why : Why) × (needed_by (guest_at w g t) ≡ Some (p, why))

-- a guest's next step accesses it, where the store is true to digests
abbrev pub IsAccessed : {Kept : Type 0} → StoreFacts Kept → WorldIs Kept → ℕ → ℕ → Type 0
IsAccessed facts w g p = facts.true_to_digests w.store → (t : TenantIs) → Contains (map (λ (a : Access). a.page) (accesses (view_at w g t))) p

-- one of so many bytes of a guest from a virtual address on lies in it
abbrev pub LieIn : {Kept : Type 0} → WorldIs Kept → ℕ → ℕ → ℕ → ℕ → Type 0
LieIn w g address count p = (t : TenantIs) → SomePlaceIn (standing (guest_at w g t).guest) address count p
