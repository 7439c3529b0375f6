-- A guest's share that lags behind its pages.
use Rattle.std.specs.Prelude.{◌≡◌, ℕ, List, [], slice_set}
use Rattle.ledger.specs.Shares.{LedgerId, ShareIs}
use Rattle.guest_pages.specs.declared.page.Page.{Page}
use Rattle.guest_pages.specs.declared.page.Page.TheVariants.{Given}
use Rattle.guest_pages.specs.declared.page.Returned.{Returned}
use Rattle.guest_pages.specs.Pages.{page_at, handed_back}
use Rattle.accounts.specs.declared.account.Account.{Account}
use Rattle.accounts.specs.OwnerShares.{guest_share}
use Rattle.accounts.specs.Settling.{KeepsFrames}
use Rattle.sharetab.specs.Entries.{EntriesAre}

-- The share says what the pages were before one of them was given to the balloon, and handed this back.
pub record IsBehind (ledger : LedgerId) (share : ShareIs Account) (returned : Returned) (new : List Page) : Type 0 where
  pub before : List Page
  pub given : ℕ
  pub was : share ≡ guest_share ledger before []
  pub pages : new ≡ slice_set before given Given
  pub what : returned ≡ handed_back (page_at before given)

-- Whatever the pages were before, with entries and nothing in hand: no frame came or went but between them, the hand and the entries.
abbrev pub KeepsFramesBack : LedgerId → ShareIs Account → Returned → EntriesAre → List Page → List ℕ → EntriesAre → Type 0
KeepsFramesBack ledger share returned entries new hand entries' =
    (before : List Page) (given : ℕ) → share ≡ guest_share ledger before [] → new ≡ slice_set before given Given → returned ≡ handed_back (page_at before given) →
    KeepsFrames before [] entries new hand entries'
