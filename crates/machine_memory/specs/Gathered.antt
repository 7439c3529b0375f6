-- Accounts of guests that are gathered.
use Rattle.std.specs.Prelude.{◌≡◌, ℕ, ◌*◌, ◌≤◌, List, [], ◌∷◌, All, length, map, sum_by}
use Rattle.guest_pages.specs.declared.page.Page.{Page}
use Rattle.guest_pages.specs.Outline.{outline}
use Rattle.guest_pages.specs.Holdings.{private_pages, shared_pages, swapped_pages}
use Rattle.ledger.specs.Shares.{LedgerId}
use Rattle.accounts.specs.declared.account.Account.{Account}
use Rattle.accounts.specs.declared.account.Account.TheVariants.{Guest}
use Rattle.lent_pages.specs.Contents.{IsWritten}
use Rattle.machine_memory.specs.Memories.{MemoryIs, IsPassOf}
use Rattle.machine_memory.specs.declared.stake.Stake.{Stake}

-- the pages of the guests whose accounts are gathered, those that came last first, each without the bytes of own frames
pub record GatheredIs : Type 0 where
  pub ledger : LedgerId
  pub pages : List (List Page)

-- the pages in a guest's account
abbrev pub pages_in : Account → List (List Page)
pages_in (Guest pages) = pages ∷ []
pages_in _ = []

-- the account of a guest with these pages and nothing in hand
abbrev pub guest_of : List Page → Account
guest_of pages = Guest (outline pages)

-- of each kind there are fewer pages than 2^32
pub record AreFew (pages : List Page) : Type 0 where
  pub in_own_frames : private_pages pages ≤ 4294967295
  pub in_shared_frames : shared_pages pages ≤ 4294967295
  pub in_slots : swapped_pages pages ≤ 4294967295

-- The accounts are those of so many guests, whose pages are so many in frames of their own, in shared frames and in slots.
pub record IsGathered (all : List (List Page)) (parts : List Account) (guests private shared swapped : ℕ) : Type 0 where
  pub accounts : parts ≡ map guest_of all
  pub count : guests ≡ length all
  pub in_own_frames : private ≡ sum_by private_pages all
  pub in_shared_frames : shared ≡ sum_by shared_pages all
  pub in_slots : swapped ≡ sum_by swapped_pages all
  pub few : All AreFew all
  pub few_private : private ≤ guests * 4294967295
  pub few_shared : shared ≤ guests * 4294967295
  pub few_swapped : swapped ≤ guests * 4294967295

-- of a guest's pages so many are in a frame of their own, read a shared frame, and are in a slot
pub record AreCounted (pages : List Page) (private shared swapped : ℕ) : Type 0 where
  pub in_own_frames : private ≡ private_pages pages
  pub in_shared_frames : shared ≡ shared_pages pages
  pub in_slots : swapped ≡ swapped_pages pages

-- the account of a stake, of a guest with these pages, is gathered elsewhere
pub record IsEmptied {Store : Type 0} (memory : MemoryIs Store) (stake : Stake) (pages : List Page) : Type 0 where
  pub share : stake.share ≡ record { ledger = memory.books.id; parts = [] }
  pub pass : IsPassOf memory stake.pass
  pub contents : IsWritten memory.contents.id stake.contents pages
