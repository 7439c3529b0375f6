-- What has happened where the accounts are settled.
use Rattle.std.specs.Prelude.{◌≡◌, ℕ, ◌+◌, List, [], length}
use Rattle.frames.specs.Counts.{count_of}
use Rattle.frames.specs.FreeList.{FreeList}
use Rattle.sharetab.specs.Entries.{EntriesAre, frames_shared, entry_count}
use Rattle.guest_pages.specs.declared.page.Page.{Page}
use Rattle.guest_pages.specs.Holdings.{frames_held, private_pages}
use Rattle.page_moves.specs.Moves.{MovesSlots, MovesTickets, Reads}
use Rattle.ledger.specs.Shares.{LedgerId, ShareIs}
use Rattle.accounts.specs.declared.account.Account.{Account}
use Rattle.accounts.specs.declared.account.Account.TheVariants.{Table, Slots}
use Rattle.accounts.specs.OwnerShares.{share_of, guest_share}

-- A frame of the guest is in its hand, a page's own or an entry's, before and after; no other frame comes or goes.
pub record KeepsFrames (pages : List Page) (hand : List ℕ) (entries : EntriesAre) (pages' : List Page) (hand' : List ℕ) (entries' : EntriesAre) : Type 0 where
  pub numbers : (k : ℕ) → count_of k hand' + frames_held k pages' + frames_shared k entries' ≡ count_of k hand + frames_held k pages + frames_shared k entries
  pub out : length hand' + private_pages pages' + entry_count entries' ≡ length hand + private_pages pages + entry_count entries

-- Nothing is lost or made between a guest's pages, the frames in its hand, the entries and the free slots, and its pages read
-- entries as before.
pub record Moves (pages : List Page) (hand : List ℕ) (entries : EntriesAre) (book : FreeList) (pages' : List Page) (hand' : List ℕ) (entries' : EntriesAre) (book' : FreeList) : Type 0 where
  pub frames : KeepsFrames pages hand entries pages' hand' entries'
  pub slots : MovesSlots pages book pages' book' []
  pub tickets : MovesTickets pages entries pages' entries'
  pub reads : Reads entries pages → Reads entries' pages'

-- The share is a guest's as it was before a move to these pages and these frames in its hand.
pub record Moved (ledger : LedgerId) (guest : ShareIs Account) (pages' : List Page) (hand' : List ℕ) : Type 0 where
  pub pages : List Page
  pub hand : List ℕ
  pub was : guest ≡ guest_share ledger pages hand
  pub moves : (entries : EntriesAre) (book : FreeList) → Moves pages hand entries book pages' hand' entries book

-- The shares are a guest's and the table's as they were before a move to these pages, frames in hand and entries.
pub record MovedWithTable (ledger : LedgerId) (guest table : ShareIs Account) (pages' : List Page) (hand' : List ℕ) (entries' : EntriesAre) : Type 0 where
  pub pages : List Page
  pub hand : List ℕ
  pub entries : EntriesAre
  pub was : guest ≡ guest_share ledger pages hand
  pub table_was : table ≡ share_of ledger (Table entries)
  pub moves : (book : FreeList) → Moves pages hand entries book pages' hand' entries' book

-- The shares are a guest's and the slot book's as they were before a move to these pages, frames in hand and slots.
pub record MovedWithSlots (ledger : LedgerId) (guest slots : ShareIs Account) (pages' : List Page) (hand' : List ℕ) (book' : FreeList) : Type 0 where
  pub pages : List Page
  pub hand : List ℕ
  pub book : FreeList
  pub was : guest ≡ guest_share ledger pages hand
  pub slots_were : slots ≡ share_of ledger (Slots book)
  pub moves : (entries : EntriesAre) → Moves pages hand entries book pages' hand' entries book'

-- The shares are a guest's, the table's and the slot book's as they were before a move to these pages, frames in hand, entries
-- and slots.
pub record MovedWithBoth (ledger : LedgerId) (guest table slots : ShareIs Account) (pages' : List Page) (hand' : List ℕ) (entries' : EntriesAre) (book' : FreeList) : Type 0 where
  pub pages : List Page
  pub hand : List ℕ
  pub entries : EntriesAre
  pub book : FreeList
  pub was : guest ≡ guest_share ledger pages hand
  pub table_was : table ≡ share_of ledger (Table entries)
  pub slots_were : slots ≡ share_of ledger (Slots book)
  pub moves : Moves pages hand entries book pages' hand' entries' book'
