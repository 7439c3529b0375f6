-- What is seen of a world, and what its guests have to do with what lies around them.
use Rattle.std.specs.Prelude.{◌≡◌, ℕ, ◌==◌, if◌then◌else◌, List, [], ◌∷◌, Option, All, length, map, slice_set, slice_index_or}
use Rattle.world.specs.Below.{Books, EntriesAre, FreeList, IsKept, Item, Level, Machine, Page, SharesAre, TenantIs, Why, accesses, beside_pages, first_lack, lacks_in, one_more, pages_in, view_of}
-- what a store is said to be, and what stays of it
pub use Rattle.booting.specs.Stores.{StoreFacts, StoreStays}

pub record WorldIs (Store : Type 0) : Type 0 where
  -- the guests, that of number g at place g
  pub tenants : List TenantIs
  -- the frames that are free, and how many are out
  pub pool : FreeList
  -- the slots that are free, and how many are used
  pub slots : FreeList
  pub shares : SharesAre
  pub store : Store
  -- how many frames there are
  pub frames : ℕ
  -- how scarce free frames were at the last turn of the policy
  pub level : Level

-- the guest of a number, its pages, and what is seen of it
abbrev pub guest_at : {Store : Type 0} → WorldIs Store → ℕ → TenantIs → TenantIs
guest_at w g t = slice_index_or w.tenants g t

abbrev pub pages_at : {Store : Type 0} → WorldIs Store → ℕ → TenantIs → List Page
pages_at w g t = pages_in (guest_at w g t)

abbrev pub view_at : {Store : Type 0} → WorldIs Store → ℕ → TenantIs → Machine
view_at w g t = view_of (guest_at w g t).guest

-- the page that a guest's next step needs, and why
abbrev pub needed_by : TenantIs → Option (ℕ × Why)
needed_by t = first_lack (lacks_in (pages_in t)) (accesses (view_of t.guest))

-- the count of a store's failures went up by one in an event
abbrev pub FailsOnce : {Kept : Type 0} → StoreFacts Kept → WorldIs Kept → WorldIs Kept → Type 0
FailsOnce facts w w' = facts.failed w'.store ≡ one_more (facts.failed w.store)

-- The books are exact: each frame is free, one page's, or an entry's whose count is how many pages name it, and each slot is free
-- or one page's. And where the store is to be trusted, each guest is its run.
pub record Sound (frames slots : ℕ) (trusted : Type 0) (held : ℕ → Option (List ℕ)) (tenants : List TenantIs) (pool book : FreeList) (entries : EntriesAre) : Type 0 where
  pub books : Books frames slots (map pages_in tenants) entries pool book
  pub kept : trusted → All (IsKept held) tenants

-- so a world is, whose store is to be trusted where it is true to digests
abbrev pub IsSoundWorld : {Kept : Type 0} → StoreFacts Kept → WorldIs Kept → Type 0
IsSoundWorld facts w = Sound w.frames (facts.slots w.store) (facts.true_to_digests w.store) (facts.held w.store) w.tenants w.pool w.slots w.shares.entries

-- one guest has become another, which has to do with it in some way, and no other guest has changed
pub record Changes (how : TenantIs → TenantIs → Type 0) (g : ℕ) (tenants tenants' : List TenantIs) : Type 0 where
  pub one : (t : TenantIs) → tenants' ≡ slice_set tenants g (slice_index_or tenants' g t)
  pub so : (t : TenantIs) → how (slice_index_or tenants g t) (slice_index_or tenants' g t)

-- of a guest only pages have moved: its log, and so its view, are as before, and it has as many pages
pub record PagesMove (t t' : TenantIs) : Type 0 where
  pub beside : beside_pages t' ≡ beside_pages t
  pub count : length (pages_in t') ≡ length (pages_in t)

-- ---- logs and boots

abbrev pub items_of : TenantIs → List Item
items_of t = t.guest.log.items

abbrev pub boot_of : TenantIs → Machine
boot_of t = t.guest.boot

-- the log of a guest; that of no guest is empty
abbrev pub log_at : List TenantIs → ℕ → List Item
log_at tenants g = slice_index_or (map items_of tenants) g []

-- an item, where the guest is the one that it happened to
abbrev pub item_for : ℕ → ℕ → Item → List Item
item_for h g item = if h == g then item ∷ [] else []

-- what lies around the guests is as before
pub record SameAround {Store : Type 0} (w w' : WorldIs Store) : Type 0 where
  pub pool : w'.pool ≡ w.pool
  pub slots : w'.slots ≡ w.slots
  pub shares : w'.shares ≡ w.shares
  pub store : w'.store ≡ w.store
  pub frames : w'.frames ≡ w.frames
  pub level : w'.level ≡ w.level

-- around the guests only the books have changed: which frames and slots are free, and the entries of shared frames
pub record OnlyBooksChange {Store : Type 0} (w w' : WorldIs Store) : Type 0 where
  pub hints : w'.shares.hints ≡ w.shares.hints
  pub store : w'.store ≡ w.store
  pub frames : w'.frames ≡ w.frames
  pub level : w'.level ≡ w.level

-- What no move of pages changes around the guests: where pages were last noted with which digests, how many frames there are, the level,
-- and what is so of the store.
pub record AroundStays {Kept : Type 0} (facts : StoreFacts Kept) (w w' : WorldIs Kept) : Type 0 where
  pub hints : w'.shares.hints ≡ w.shares.hints
  pub frames : w'.frames ≡ w.frames
  pub level : w'.level ≡ w.level
  pub store : StoreStays facts w.store w'.store
