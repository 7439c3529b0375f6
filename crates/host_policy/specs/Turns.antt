-- What a turn of the policy does.
use Rattle.std.specs.Prelude.{◌≡◌, ℕ, ◌<◌, ◌≤◌, ◌*◌, ◌⊎◌, Bool, true, false, Option, Some, IsSome, List, length, count_by, slice_index_or}
use Rattle.items.specs.declared.item.Item.{Item}
use Rattle.items.specs.declared.item.What.TheVariants as what
use Rattle.guest_log.specs.declared.stop.Stop.TheVariants.{LogFull}
use Rattle.seated.specs.Acts.{Sees}
use Rattle.cell.specs.declared.cell.Front.{Front}
use Rattle.cell.specs.declared.cell.Cell.{Cell}
use Rattle.cell.specs.declared.seat.Seat.{Seat}
use Rattle.cell.specs.Sitting.{IsOf, Lasts, IsTrusted, Happens, IsFullOf}
use Rattle.machine_memory.specs.Memories.{MemoryIs}
use Rattle.taxpolicy.specs.declared.stat.Stat.{Stat}
use Rattle.reclaim.specs.declared.level.Level.{Level}
use Rattle.reclaim.specs.declared.turn.Action.{Action}
use Rattle.reclaim.specs.declared.turn.Plan.{Plan}
use Rattle.reclaim.specs.Levels.{next_level_of}
use Rattle.reclaim.specs.Plans.{actions_of}
use Rattle.host_policy.specs.declared.aiming.Aim.{Aim}
use Rattle.host_policy.specs.declared.aiming.Aim.TheVariants.{Kept, Set, LeftOut}
use Rattle.host_policy.specs.declared.made.Turn.{Turn}
use Rattle.host_policy.specs.Numbers.{AreStatsOf}
use Rattle.host_policy.specs.Policies.{WereFree, WasReached}

-- What is done in a turn to guests with these numbers, by how many frames of the memory were free, a tax, and the level before, which
-- earlier turns had reached.
pub record IsPlan {Store : Type 0} (memory : MemoryIs Store) (stats : List Stat) (plan : Plan) : Type 0 where
  pub free : ℕ
  pub were_free : WereFree memory free
  pub before : Level
  pub reached : WasReached memory before
  pub level : plan.level ≡ next_level_of free memory.books.key.frames before
  pub tax : ℕ
  pub below : tax < 100
  pub actions : plan.actions.items ≡ actions_of plan.level tax memory.books.key.frames stats

-- what is done in a turn to the guests behind these cells, by numbers of them that were found, each under its guest's lock
pub record IsPlanFor {S : Type 0} (memory : MemoryIs S) (cells : List (Cell S)) (plan : Plan) : Type 0 where
  pub stats : List Stat
  pub found : AreStatsOf cells stats
  pub plan_is : IsPlan memory stats plan

-- the policy's seat of the guest behind a front
pub record IsPolicySeat {S : Type 0} (front : Front S) (seat : Seat) : Type 0 where
  pub its : IsOf front seat
  pub number : seat.seat.number ≡ 2

-- the policy's seats of the guests behind these cells, one for each, in the order of the guests
pub record ArePolicySeats {S : Type 0} (cells : List (Cell S)) (seats : List Seat) : Type 0 where
  pub count : length seats ≡ length cells
  pub each : (g : ℕ) (c : Cell S) (s : Seat) → g < length cells → IsPolicySeat (slice_index_or cells g c).front (slice_index_or seats g s)

-- the item by which the policy asks a guest to give so many pages to its balloon
abbrev pub asks_for : ℕ → Item
asks_for pages = record { seat = 2; what = what.Target pages }

-- What has become of a guest's balloon target, where this one was asked for, if any. It stays with no item and no look at the log; or it was
-- set by an item; or it stays because the log had no room for that, or there was no memory.
abbrev pub IsAimed : {S : Type 0} → Front S → Option ℕ → Seat → Aim → Seat → Type 0
IsAimed front asked seat Kept seat' = seat' ≡ seat
IsAimed front asked seat (Set pages) seat' = (asked ≡ Some pages) × Happens front seat (asks_for pages) seat'
IsAimed front asked seat (LeftOut stop) seat' = IsSome asked × Sees seat.seat seat'.seat × (stop ≡ LogFull → IsFullOf front seat'.seat.saw)

-- whether another target was asked for than the guest has now
abbrev pub is_left_out : Aim → Bool
is_left_out Kept = false
is_left_out (Set pages) = false
is_left_out (LeftOut stop) = true

-- whether the seat was used for it: to make an item, or to look at the log
abbrev pub is_used : Aim → Bool
is_used Kept = false
is_used (Set pages) = true
is_used (LeftOut stop) = true

-- what has become of the balloon targets of the guests behind these cells, by what is done to each
pub record AreAimed {S : Type 0} (cells : List (Cell S)) (actions : List Action) (seats : List Seat) (aims : List Aim) (seats' : List Seat) : Type 0 where
  pub count : length aims ≡ length cells
  pub each : (g : ℕ) (c : Cell S) (a : Action) (s s' : Seat) (aim : Aim) → g < length cells →
      IsAimed (slice_index_or cells g c).front (slice_index_or actions g a).balloon (slice_index_or seats g s) (slice_index_or aims g aim) (slice_index_or seats' g s')

-- the policy asked a guest by one item to give so many pages to its balloon, at most three quarters of those that it has
pub record AskedOnce {S : Type 0} (front : Front S) (seat seat' : Seat) : Type 0 where
  pub target : ℕ
  pub most : 4 * target ≤ 3 * front.pages
  pub happened : Happens front seat (asks_for target) seat'

-- What a turn leaves of the policy's seat of a guest: it has made no item and not looked, or has looked, or has made the one item. Where it
-- has done either, and the swap store is true to digests, it has found that the guest's truth holds.
pub record IsTurned {S : Type 0} (is_true : S → Type 0) (front : Front S) (seat seat' : Seat) : Type 0 where
  pub its : IsPolicySeat front seat'
  pub lasts : Lasts seat seat'
  pub asked : (seat' ≡ seat) ⊎ (Sees seat.seat seat'.seat ⊎ AskedOnce front seat seat')
  pub lasts_with_store : (seat' ≡ seat) ⊎ (IsTrusted is_true front → seat'.witness.held ≡ true)

pub record AreTurned {S : Type 0} (is_true : S → Type 0) (cells : List (Cell S)) (seats seats' : List Seat) : Type 0 where
  pub count : length seats' ≡ length cells
  pub each : (g : ℕ) (c : Cell S) (s s' : Seat) → g < length cells → IsTurned is_true (slice_index_or cells g c).front (slice_index_or seats g s) (slice_index_or seats' g s')

-- A turn, by what is done to each guest: its level, what has become of the balloon targets, and how many of those that were asked for
-- were not set
pub record IsTurn {S : Type 0} (memory : MemoryIs S) (cells : List (Cell S)) (seats : List Seat) (turn : Turn) (seats' : List Seat) : Type 0 where
  pub plan : Plan
  pub planned : IsPlanFor memory cells plan
  pub level : turn.level ≡ plan.level
  pub aims : List Aim
  pub aimed : AreAimed cells plan.actions.items seats aims seats'
  pub left_out : turn.left_out ≡ count_by is_left_out aims
