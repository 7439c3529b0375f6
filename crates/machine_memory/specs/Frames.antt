-- What a call does to frames.
use Rattle.std.specs.Prelude.{◌≡◌, ℕ, ◌+◌, List, [], slice_set}
use Rattle.frames.specs.Counts.{count_of}
use Rattle.sharetab.specs.Entries.{EntriesAre, frames_shared}
use Rattle.guest_pages.specs.declared.page.Page.{Page}
use Rattle.guest_pages.specs.declared.page.Page.TheVariants.{Given}
use Rattle.guest_pages.specs.declared.page.Returned.{Returned}
use Rattle.guest_pages.specs.Pages.{page_at, handed_back}
use Rattle.guest_pages.specs.Holdings.{frames_held}
use Rattle.ledger.specs.Shares.{LedgerId, ShareIs}
use Rattle.accounts.specs.declared.account.Account.{Account}
use Rattle.accounts.specs.OwnerShares.{guest_share}
use Rattle.lent_pages.specs.Returns.{KeepsFramesBack}
use Rattle.shared_pool.specs.Pools.{PassIs}

-- No frame is lost or made between a guest's pages, the shared frames and the pool: those that the guest's pass put, less those that it
-- took, with the pages' own and the shared ones that were found, are the same after, each as often. No shared frame need be looked at.
pub record KeepsEachFrame (old : List Page) (before : PassIs) (new : List Page) (after : PassIs) : Type 0 where
  pub found : EntriesAre
  pub left : EntriesAre
  pub numbers : (k : ℕ) → count_of k after.hand.put + frames_held k new + frames_shared k left + count_of k before.hand.taken ≡ count_of k before.hand.put + frames_held k old + frames_shared k found + count_of k after.hand.taken

-- entries were found and left with which what a page handed back keeps each frame
abbrev pub HaveComeBack : LedgerId → ShareIs Account → Returned → List Page → List ℕ → Type 0
HaveComeBack ledger share returned new hand = (found : EntriesAre) × (left : EntriesAre) × KeepsFramesBack ledger share returned found new hand left

-- The same where a page was given to the balloon before the call and handed this back: of whatever the pages were before that, by a share.
abbrev pub KeepsEachFrameBack : LedgerId → ShareIs Account → Returned → PassIs → List Page → PassIs → Type 0
KeepsEachFrameBack ledger share returned before new after =
    (old : List Page) (given : ℕ) → share ≡ guest_share ledger old [] → new ≡ slice_set old given Given → returned ≡ handed_back (page_at old given) → KeepsEachFrame old before new after
