-- What a turn of the policy does in a world (Waldspurger, OSDI 2002, section 6.3).
use Rattle.std.specs.Prelude.{◌≡◌, ℕ, ◌+◌, ◌<◌, ◌≤◌, min, List, [], ◌∷◌, Option, Some, None, IfSome, length, map, slice_index_or}
use Rattle.world.specs.Below.{Action, Aim, EvictError, IsAimed, Item, StaysInTurn, TenantIs, WhyStays, actions_of, next_level_of, outline, pages_in, resident_pages, stat_of, target_by_policy}
use Rattle.tenant.specs.declared.turning.Aim.TheVariants as aim
use Rattle.world.specs.declared.turns.Turn.{Turn}
use Rattle.world.specs.Victims.{OnlyPagesMove}
use Rattle.world.specs.Worlds.{WorldIs, PagesMove, guest_at, pages_at}

-- ---- what is done beside swapping out

-- a guest is blocked or goes on, its balloon's target is set where another one is wanted, and no page of it has moved
pub record IsTurned (action : Action) (t : TenantIs) (made : Aim) (t' : TenantIs) : Type 0 where
  pub blocked : t'.blocked ≡ action.blocked
  pub aimed : IsAimed action.balloon t made t'
  pub pages : outline (pages_in t') ≡ outline (pages_in t)
  pub stays : StaysInTurn t t'

-- so is each guest, by its action
pub record AreTurned (actions : List Action) (ts : List TenantIs) (made : List Aim) (ts' : List TenantIs) : Type 0 where
  pub count : length ts' ≡ length ts
  pub aims : length made ≡ length ts
  pub each : (g : ℕ) (t : TenantIs) (action : Action) (a : Aim) → g < length ts →
      IsTurned (slice_index_or actions g action) (slice_index_or ts g t) (slice_index_or made g a) (slice_index_or ts' g t)

-- ---- pages that are swapped out

-- so many pages of a guest have left their frames
pub record LosesPages (count : ℕ) (t t' : TenantIs) : Type 0 where
  pub moves : PagesMove t t'
  pub fewer : resident_pages (pages_in t') + count ≡ resident_pages (pages_in t)

-- so many may leave, and the guest always keeps what it is to keep
abbrev pub MayLose : ℕ → TenantIs → Type 0
MayLose count t = count + min t.minimum (resident_pages (pages_in t)) ≤ resident_pages (pages_in t)

-- each guest below a number has lost the pages that its action swaps out
abbrev pub AreFewer : List Action → ℕ → List TenantIs → List TenantIs → Type 0
AreFewer actions below ts ts' = (g : ℕ) (t : TenantIs) (action : Action) → g < below →
    LosesPages (slice_index_or actions g action).swap_out (slice_index_or ts g t) (slice_index_or ts' g t)

-- the guests from a number on are as they were
abbrev pub SameFrom : ℕ → List TenantIs → List TenantIs → Type 0
SameFrom from ts ts' = (g : ℕ) (t : TenantIs) → from ≤ g → slice_index_or ts' g t ≡ slice_index_or ts g t

-- one guest after another has lost the pages that its action swaps out, up to one of which fewer have left, and the others have lost none
pub record AreCutShort (actions : List Action) (ts ts' : List TenantIs) : Type 0 where
  pub g : ℕ
  pub there : g < length ts
  pub before : AreFewer actions g ts ts'
  pub lost : ℕ
  pub less : (action : Action) → lost < (slice_index_or actions g action).swap_out
  pub its : (t : TenantIs) → LosesPages lost (slice_index_or ts g t) (slice_index_or ts' g t)
  pub after : SameFrom (g + 1) ts ts'

-- Each guest has lost the pages that its action swaps out, one guest after another; or one of them stayed in its frame, and then none
-- followed.
abbrev pub AreSwappedOut : List Action → Option EvictError → List TenantIs → List TenantIs → Type 0
AreSwappedOut actions None ts ts' = AreFewer actions (length ts) ts ts'
AreSwappedOut actions (Some error) ts ts' = AreCutShort actions ts ts'

-- ---- the turn

-- what is done to the guests of a world in a turn at a level
abbrev pub actions_in : {Store : Type 0} → ℕ → WorldIs Store → Turn → List Action
actions_in tax w turn = actions_of turn.level tax w.frames (map stat_of w.tenants)

-- A turn of the policy: the level is that to which moves lead from the one before, by the frames that are free; each guest is blocked or
-- goes on, and its balloon's target is set where the plan has another one; then pages are swapped out, guest after guest, as many as the
-- plan has, or up to the first one that stays in its frame.
pub record IsTurn {Store : Type 0} (tax : ℕ) (failed : Type 0) (w : WorldIs Store) (turn : Turn) (w' : WorldIs Store) : Type 0 where
  pub level : turn.level ≡ next_level_of (length w.pool.free) w.frames w.level
  pub now : w'.level ≡ turn.level
  -- the guests before the first page is swapped out
  pub mid : List TenantIs
  pub turned : AreTurned (actions_in tax w turn) w.tenants turn.aims.items mid
  pub moves : OnlyPagesMove mid w'.tenants
  pub swapped : AreSwappedOut (actions_in tax w turn) turn.refused mid w'.tenants
  pub why : IfSome turn.refused (WhyStays w'.slots failed)
  -- a guest is left its minimum, or what it had
  pub least : (g : ℕ) (t : TenantIs) → g < length w.tenants →
      min (guest_at w g t).minimum (resident_pages (pages_at w g t)) ≤ resident_pages (pages_at w' g t)

-- the items that the turn adds to the log of a guest
abbrev pub aim_items : Aim → List Item
aim_items aim.Kept = []
aim_items (aim.Set pages) = target_by_policy pages ∷ []
aim_items (aim.LeftOut stop) = []
