-- What is seen of a log.
use Rattle.std.specs.Prelude.{◌≡◌, ℕ, ◌+◌, ◌<◌, ◌≤◌, ◌^◌, ◌⊎◌, List, [], ◌∷◌, ◌++◌, length, max}
use Rattle.items.specs.declared.item.Item.{Item}
use Rattle.items.specs.Entries.{step_by}
use Rattle.guest_log.specs.Runs.{run_count}

pub record LogIs : Type 0 where
  -- what happened, in order
  pub items : List Item
  -- how many stored entries can be added without a request for memory
  pub room : ℕ
  -- the greatest number of runs
  pub limit : ℕ

-- whether one more step can be added
pub record HasRoom (log : LogIs) : Type 0 where
  pub items : length log.items < 2 ^ 62
  pub runs : run_count log.items < log.limit
  pub memory : 0 < log.room

-- whether so many steps of a seat can be added, one after another: there is room for the first, and the log isn't full after it where
-- another follows, which then adds no run
pub record HasRoomFor (log : LogIs) (seat count : ℕ) : Type 0 where
  pub items : length log.items + count ≤ 2 ^ 62
  pub runs : run_count log.items < log.limit
  pub memory : 0 < log.room
  pub more : (count ≤ 1) ⊎ (run_count (log.items ++ step_by seat ∷ []) < log.limit)

-- whether one more item that is no step can be added: it may need two stored entries, the run of steps before it and
-- itself
pub record HasItemRoom (log : LogIs) : Type 0 where
  pub items : length log.items < 2 ^ 62
  pub runs : run_count log.items < log.limit
  pub memory : 1 < log.room

-- the log has its greatest number of runs, or 2^62 items
abbrev pub IsFull : LogIs → Type 0
IsFull log = (log.limit ≤ run_count log.items) ⊎ (2 ^ 62 ≤ length log.items)

-- a log stays, but for its room, which doesn't shrink and becomes at most that for as many more runs as there are, and 16
pub record TakesRoom (log log' : LogIs) : Type 0 where
  pub items : log'.items ≡ log.items
  pub limit : log'.limit ≡ log.limit
  pub kept : log.room ≤ log'.room
  pub bounded : log'.room ≤ max log.room (run_count log.items + 16)
