-- What is seen of a console queue and of its passes.
use Rattle.std.specs.Prelude.{◌≡◌, ℕ, List, ◌++◌, length}
use Rattle.atomic_table.specs.Seated.{TableId}

-- which queue it is
abbrev pub QueueId : Type 0
QueueId = TableId

pub record QueueIs : Type 0 where
  pub id : QueueId
  -- how many bytes it has room for
  pub room : ℕ

-- the pass that puts
pub record FeedIs : Type 0 where
  pub queue : QueueId
  -- all bytes that were put, in order
  pub put : List ℕ

-- the pass that takes
pub record TakeIs : Type 0 where
  pub queue : QueueId
  -- all bytes that were taken, in order
  pub taken : List ℕ

-- these bytes are the last of all that were put
abbrev pub Ends : List ℕ → List ℕ → Type 0
Ends put waiting = (before : List ℕ) × (put ≡ before ++ waiting)

-- as many bytes waited as there is room for
abbrev pub WasFull : ℕ → List ℕ → Type 0
WasFull room put = (waiting : List ℕ) × (length waiting ≡ room) × Ends put waiting
