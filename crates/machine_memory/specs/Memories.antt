-- What is seen of machine memory, and of what stands beside a guest's pages.
use Rattle.std.specs.Prelude.{◌≡◌, ℕ, List, [], ◌∷◌}
use Rattle.std.specs.List.{range_with_len}
use Rattle.ledger.specs.Shares.{LedgerIs}
use Rattle.guest_pages.specs.declared.page.Page.{Page}
use Rattle.accounts.specs.declared.account.Extent.{Extent}
use Rattle.accounts.specs.OwnerShares.{guest_share}
use Rattle.lent_pages.specs.Contents.{IsWritten}
use Rattle.shared_pool.specs.Pools.{PoolIs, PassIs}
use Rattle.machine_memory.specs.declared.stake.Stake.{Stake}

pub record MemoryIs (Store : Type 0) : Type 0 where
  -- the books of all frames, slots and tickets
  pub books : LedgerIs Extent
  -- what was written to the slots
  pub contents : LedgerIs ℕ
  -- the pool of the free frames
  pub pool : PoolIs
  -- the swap store as it was when the memory was made
  pub first : Store

-- a pass is one of the memory's pool, whose frames have their accounts in the memory's books
pub record IsPassOf {Store : Type 0} (memory : MemoryIs Store) (pass : PassIs) : Type 0 where
  pub pool : pass.pool ≡ memory.pool.id
  pub ledger : pass.hand.of ≡ memory.books.id
  pub whole : pass.hand.whole ≡ range_with_len 0 memory.books.key.frames

-- A guest has these pages and these frames in hand: so its account in the memory's books says, its pass is one of the memory's pool, and
-- it has what was written to the slots that its pages are in.
pub record HasInHand {Store : Type 0} (memory : MemoryIs Store) (stake : Stake) (pages : List Page) (hand : List ℕ) : Type 0 where
  pub share : stake.share ≡ guest_share memory.books.id pages hand
  pub pass : IsPassOf memory stake.pass
  pub contents : IsWritten memory.contents.id stake.contents pages

-- A guest's stake says what its pages are: no frame is in hand.
abbrev pub IsLevel : {Store : Type 0} → MemoryIs Store → Stake → List Page → Type 0
IsLevel memory stake pages = HasInHand memory stake pages []

-- the stakes of guests with these pages, each level
abbrev pub AreLevel : {Store : Type 0} → MemoryIs Store → List Stake → List (List Page) → Type 0
AreLevel memory [] [] = Unit {0}
AreLevel memory (stake ∷ stakes) (pages ∷ all) = IsLevel memory stake pages × AreLevel memory stakes all
AreLevel memory _ _ = ⊥
