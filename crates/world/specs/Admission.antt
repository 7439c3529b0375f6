-- Guests that are admitted by their minimums, and what that promises (Waldspurger, OSDI 2002, sections 6.1 and 6.2, has the parameters and
-- admission control; the form here, by minimums, is our own).
use Rattle.std.specs.Prelude.{◌≡◌, ℕ, ◌+◌, ◌-◌, ◌<◌, ◌≤◌, List, Ok, Err, length, map, sum_by}
use Rattle.world.specs.Below.{TenantIs, pages_in}
use Rattle.world.specs.declared.debugging.DebugError.{DebugError}
use Rattle.world.specs.declared.debugging.DebugError.TheVariants as debug
use Rattle.world.specs.declared.events.Answer.{Answer}
use Rattle.world.specs.declared.events.Answer.TheVariants as answer
use Rattle.world.specs.declared.faulting.FaultError.{FaultError}
use Rattle.world.specs.declared.faulting.FaultError.TheVariants as lacking
use Rattle.world.specs.declared.running.End.{End}
use Rattle.world.specs.declared.running.End.TheVariants as end
use Rattle.world.specs.declared.running.RunStop.{RunStop}
use Rattle.world.specs.declared.running.RunStop.TheVariants as stop
use Rattle.world.specs.Worlds.{boot_of}

-- Guests are admitted by their minimums: there are as many frames as they always keep pages, and one more for each of them, and a slot for
-- each of their other pages.
pub record IsAdmitted (frames slots : ℕ) (ts : List TenantIs) : Type 0 where
  pub some : 0 < length ts
  pub frames_for : sum_by (λ t. t.minimum + 1) ts ≤ frames
  pub slots_for : sum_by (λ t. length (pages_in t) - t.minimum) ts ≤ slots

-- ---- what nothing changes that happens in a world

-- each guest has as many pages and shares as before, and the same minimum
pub record LimitsStay (ts ts' : List TenantIs) : Type 0 where
  pub pages : map (λ t. length (pages_in t)) ts' ≡ map (λ t. length (pages_in t)) ts
  pub shares : map (λ (t : TenantIs). t.shares) ts' ≡ map (λ (t : TenantIs). t.shares) ts
  pub minimums : map (λ (t : TenantIs). t.minimum) ts' ≡ map (λ (t : TenantIs). t.minimum) ts

-- the same guests are blocked
abbrev pub BlockedStay : List TenantIs → List TenantIs → Type 0
BlockedStay ts ts' = map (λ (t : TenantIs). t.blocked) ts' ≡ map (λ (t : TenantIs). t.blocked) ts

-- the machines that the guests booted are the same, and so are their limits and who of them is blocked
pub record GuestsStay (ts ts' : List TenantIs) : Type 0 where
  pub boots : map boot_of ts' ≡ map boot_of ts
  pub limits : LimitsStay ts ts'
  pub blocked : BlockedStay ts ts'

-- ---- room

-- a page found no frame: not for want of slots, and for want of frames only where the store failed
abbrev pub IsNoRoom : Type 0 → FaultError → Type 0
IsNoRoom failed lacking.NoFrame = failed
IsNoRoom failed lacking.NoSwap = ⊥
IsNoRoom failed _ = Unit {0}

-- the same of what stops several steps, or a debugger's access
abbrev pub IsNoRoomIn : Type 0 → RunStop → Type 0
IsNoRoomIn failed stop.NoFrame = failed
IsNoRoomIn failed stop.NoSwap = ⊥
IsNoRoomIn failed _ = Unit {0}

abbrev pub IsEndWithRoom : Type 0 → End → Type 0
IsEndWithRoom failed (end.Stop why) = IsNoRoomIn failed why
IsEndWithRoom failed _ = Unit {0}

abbrev pub IsAccessWithRoom : Type 0 → DebugError → Type 0
IsAccessWithRoom failed debug.NoPlace = Unit {0}
IsAccessWithRoom failed (debug.Stop why) = IsNoRoomIn failed why

-- Each page that an event needs found room, or the store failed. The supply of a page by itself takes no page from others, and an
-- eviction by itself minds no minimum.
abbrev pub FindsRoom : Type 0 → Answer → Type 0
FindsRoom failed (answer.Ran ran) = IsEndWithRoom failed ran.end
FindsRoom failed (answer.Probed (Err error)) = IsAccessWithRoom failed error
FindsRoom failed (answer.Written (Err error)) = IsAccessWithRoom failed error
FindsRoom failed (answer.Faulted (Err error)) = IsNoRoom failed error
FindsRoom failed a = Unit {0}

-- no turn of the policy was made
abbrev pub NotTurned : Answer → Type 0
NotTurned (answer.Turned (Ok turn)) = ⊥
NotTurned a = Unit {0}
