-- What the scan of a page found under the table's lock.
use Rattle.std.specs.Prelude.{ℕ, List}
use Rattle.sha2.specs.Sha256.{sha256}
use Rattle.sharetab.specs.Shares.{SharesAre}
use Rattle.sharetab.specs.declared.guest_page.GuestPage.{GuestPage}
use Rattle.guest_pages.specs.declared.page.Page.{Page}
use Rattle.guest_pages.specs.Pages.{page_at, shown}
use Rattle.page_moves.specs.declared.scan.Scan.{Scan}
use Rattle.page_moves.specs.Scans.{Answered, Comes, HintsAfter}

-- Shared frames and hints were found of which the answer is true, and the page and they became what goes with it.
pub record WasScanned (page : GuestPage) (old : List Page) (scan : Scan) (new : List Page) : Type 0 where
  pub found : SharesAre
  pub left : SharesAre
  pub came_free : List ℕ
  pub answer : Answered found old page scan
  pub comes : Comes found.entries old page.page scan left.entries new came_free
  pub hints : HintsAfter found.hints (sha256 (shown (page_at old page.page))) page scan left.hints
