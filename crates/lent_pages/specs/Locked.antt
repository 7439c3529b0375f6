-- What lies under the locks of machine memory.
use Rattle.std.specs.Prelude.{◌≡◌, ℕ}
use Rattle.frames.specs.FreeList.{FreeList}
use Rattle.sharetab.specs.Entries.{EntriesAre}
use Rattle.ledger.specs.Shares.{LedgerIs, ShareIs}
use Rattle.accounts.specs.declared.account.Account.{Account}
use Rattle.accounts.specs.declared.account.Account.TheVariants.{Table, Slots}
use Rattle.accounts.specs.declared.account.Extent.{Extent}
use Rattle.accounts.specs.OwnerShares.{share_of}
use Rattle.lent_pages.specs.Stores.{IsStill}

-- the account of the shared frames says what they are
abbrev pub IsTable : LedgerIs Extent → EntriesAre → ShareIs Account → Type 0
IsTable books entries share = share ≡ share_of books.id (Table entries)

-- The account of the slots says which are free, the store has as many slots as the books, and it is to be trusted as the first one was.
pub record IsSwap {Store : Type 0} (is_honest is_true : Store → Type 0) (slots : Store → ℕ) (books : LedgerIs Extent) (first : Store) (book : FreeList) (store : Store) (share : ShareIs Account) : Type 0 where
  pub account : share ≡ share_of books.id (Slots book)
  pub size : slots store ≡ books.key.slots
  pub still : IsStill is_honest is_true first store
