-- The shares of the owners.
use Rattle.std.specs.Prelude.{ℕ, List, [], ◌∷◌, ◌++◌, map}
use Rattle.guest_pages.specs.declared.page.Page.{Page}
use Rattle.guest_pages.specs.declared.page.Page.TheVariants.{Private}
use Rattle.guest_pages.specs.Outline.{outline}
use Rattle.frames.specs.FreeList.{FreeList}
use Rattle.sharetab.specs.Entries.{EntriesAre}
use Rattle.page_moves.specs.Books.{Books}
use Rattle.ledger.specs.Shares.{LedgerId, ShareIs}
use Rattle.accounts.specs.declared.account.Account.{Account}
use Rattle.accounts.specs.declared.account.Account.TheVariants.{Guest, Frame}
use Rattle.accounts.specs.declared.account.Extent.{Extent}

-- the share of one account
abbrev pub share_of : LedgerId → Account → ShareIs Account
share_of ledger account = record { ledger = ledger; parts = account ∷ [] }

-- free frames in a guest's hand, as private pages without bytes
abbrev pub on_its_way : List ℕ → List Page
on_its_way [] = []
on_its_way (n ∷ ns) = Private (record { number = n; bytes = [] }) ∷ on_its_way ns

-- the account of a guest: the outline of its pages, which no access of memory changes, and the frames in its hand
abbrev pub guest_account : List Page → List ℕ → Account
guest_account pages hand = Guest (outline pages ++ on_its_way hand)

-- the share of a guest with these pages, and these frames in its hand
abbrev pub guest_share : LedgerId → List Page → List ℕ → ShareIs Account
guest_share ledger pages hand = share_of ledger (guest_account pages hand)

-- the share of free frames with these numbers
abbrev pub free_share : LedgerId → List ℕ → ShareIs Account
free_share ledger numbers = record { ledger = ledger; parts = map Frame numbers }

-- with the pages of other guests, a guest's pages and the frames in its hand, the entries, the pool and the slots are exact books
abbrev pub ExactWith : Extent → List Page → List ℕ → EntriesAre → FreeList → FreeList → Type 0
ExactWith k pages hand entries pool book = (others : List (List Page)) × Books k.frames k.slots ((pages ++ on_its_way hand) ∷ others) entries pool book
