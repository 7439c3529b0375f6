-- What lies under a lock, by the memory's books and by those of the lock's key.
use Rattle.std.proofs.Common.{◌≡◌, ℕ, subst}
use Rattle.frames.specs.FreeList.{FreeList}
use Rattle.sharetab.specs.Entries.{EntriesAre}
use Rattle.ledger.specs.Shares.{LedgerIs, ShareIs}
use Rattle.accounts.specs.declared.account.Account.{Account}
use Rattle.accounts.specs.declared.account.Extent.{Extent}
use Rattle.lent_pages.specs.Locked.{IsTable, IsSwap}

pub table_by : (books books' : LedgerIs Extent) (es : EntriesAre) (share : ShareIs Account) → books ≡ books' → IsTable books es share → IsTable books' es share
table_by books books' es share same is = subst (λ (b : LedgerIs Extent). IsTable b es share) same is

pub swap_by : {Store : Type 0} (is_honest is_true : Store → Type 0) (slots : Store → ℕ) (books books' : LedgerIs Extent) (first first' : Store) (book : FreeList) (store : Store) (share : ShareIs Account)
    → books ≡ books' → first ≡ first' → IsSwap is_honest is_true slots books first book store share → IsSwap is_honest is_true slots books' first' book store share
swap_by is_honest is_true slots books books' first first' book store share same one is =
    subst (λ (b : LedgerIs Extent). IsSwap is_honest is_true slots b first' book store share) same
    (subst (λ (f : _). IsSwap is_honest is_true slots books f book store share) one is)
