-- What is seen of a policy, and what lies under its lock.
use Rattle.std.specs.Prelude.{◌≡◌, ℕ, List, [], ◌∷◌, All, length}
use Rattle.reclaim.specs.declared.level.Level.{Level}
use Rattle.reclaim.specs.declared.level.Level.TheVariants.{High}
use Rattle.reclaim.specs.Levels.{next_level_of}
use Rattle.shared_pool.specs.Pools.{PassIs}
use Rattle.shared_pool.specs.Resting.{RestingIs}
use Rattle.shared_pool.specs.Balance.{Stands}
use Rattle.machine_memory.specs.Memories.{MemoryIs, IsPassOf}
use Rattle.host_policy.specs.declared.policy.Key.{Key}
use Rattle.host_policy.specs.declared.policy.Locked.{Locked}

pub record PolicyIs : Type 0 where
  -- the pass of the free frames with which it was made
  pub first : PassIs
  -- of how many frames it goes by
  pub frames : ℕ

-- a pass of the same pool as the first, whose frames have their accounts in the same books
pub record IsPassAs (first pass : PassIs) : Type 0 where
  pub pool : pass.pool ≡ first.pool
  pub ledger : pass.hand.of ≡ first.hand.of
  pub whole : pass.hand.whole ≡ first.hand.whole

-- so many frames were free at a moment, by what a pass of the pool of the first one knew
pub record WereFreeBy (first : PassIs) (count : ℕ) : Type 0 where
  pub pass : PassIs
  pub its_pool : IsPassAs first pass
  pub free : List RestingIs
  pub stood : Stands pass.hand free
  pub count_is : length free ≡ count

-- the level after turns in which this many of all frames were free, in the last turn first; high before any
abbrev pub level_after : ℕ → List ℕ → Level
level_after frames [] = High
level_after frames (free ∷ counts) = next_level_of free frames (level_after frames counts)

-- a level to which turns led from high, each by how many frames were free at a moment of it
pub record IsReached (first : PassIs) (frames : ℕ) (level : Level) : Type 0 where
  pub counts : List ℕ
  pub were_free : All (WereFreeBy first) counts
  pub level_is : level ≡ level_after frames counts

-- what lies under a policy's lock has a pass of the pool of the first one, and a level that turns have reached
pub record LiesUnder (key : Key) (locked : Locked) : Type 0 where
  pub pass : IsPassAs key.first.value locked.pass
  pub level : IsReached key.first.value key.frames locked.state.level

-- a policy is for guests of a machine memory: it can count the free frames, and knows how many there are in all
pub record IsPolicyOf {Store : Type 0} (memory : MemoryIs Store) (policy : PolicyIs) : Type 0 where
  pub pass : IsPassOf memory policy.first
  pub frames : policy.frames ≡ memory.books.key.frames

-- so many frames of a memory were free at a moment, by what a pass of its pool knew
pub record WereFree {Store : Type 0} (memory : MemoryIs Store) (count : ℕ) : Type 0 where
  pub pass : PassIs
  pub its_pass : IsPassOf memory pass
  pub free : List RestingIs
  pub stood : Stands pass.hand free
  pub count_is : length free ≡ count

-- a level that turns of a policy for this memory have reached
pub record WasReached {Store : Type 0} (memory : MemoryIs Store) (level : Level) : Type 0 where
  pub first : PassIs
  pub its_pass : IsPassOf memory first
  pub by_turns : IsReached first memory.books.key.frames level
