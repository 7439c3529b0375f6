-- What the books count.
use Rattle.std.specs.Prelude.{◌≡◌, ◌+◌, List, length, sum_by}
use Rattle.frames.specs.FreeList.{FreeList}
use Rattle.sharetab.specs.Entries.{EntriesAre, entry_count, ticket_count}
use Rattle.guest_pages.specs.declared.page.Page.{Page}
use Rattle.guest_pages.specs.Holdings.{private_pages, shared_pages, swapped_pages}
use Rattle.page_moves.specs.Books.{Books}
use Rattle.accounts.specs.declared.account.Extent.{Extent}
use Rattle.machine_memory.specs.declared.audit.BookCounts.{BookCounts}

-- The counts are those of exact books of all guests' pages, of each kind as many as there are, and they add up.
pub record IsCountOf (extent : Extent) (all : List (List Page)) (counts : BookCounts) : Type 0 where
  pub entries : EntriesAre
  pub pool : FreeList
  pub book : FreeList
  pub exact : Books extent.frames extent.slots all entries pool book
  pub frames : counts.frames ≡ extent.frames
  pub free : counts.free ≡ length pool.free
  pub private : counts.private ≡ sum_by private_pages all
  pub shared : counts.shared ≡ entry_count entries
  pub references : counts.references ≡ sum_by shared_pages all
  pub swapped : counts.swapped ≡ sum_by swapped_pages all
  pub slots : counts.slots ≡ extent.slots
  pub all_frames : counts.free + counts.private + counts.shared ≡ counts.frames
  pub all_tickets : counts.references ≡ ticket_count entries
  pub all_slots : counts.swapped + length book.free ≡ counts.slots
