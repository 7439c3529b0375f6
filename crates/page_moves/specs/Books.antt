-- The books: where each frame, each slot and each ticket is.
use Rattle.std.specs.Prelude.{◌≡◌, ℕ, ◌+◌, List, [], All, length, sum_by, slice_index_or}
use Rattle.frames.specs.Counts.{count_of, below}
use Rattle.frames.specs.FreeList.{FreeList}
use Rattle.sharetab.specs.Entries.{EntriesAre, count_at, frames_shared, entry_count}
use Rattle.guest_pages.specs.declared.page.Page.{Page}
use Rattle.guest_pages.specs.Holdings.{frames_held, slots_held, tickets_held, private_pages, swapped_pages}
use Rattle.page_moves.specs.Moves.{Reads}

-- the pages of the owner at a place
abbrev pub pages_of : List (List Page) → ℕ → List Page
pages_of all i = slice_index_or all i []

-- Of `frames` frames each has one place: it is free, a page's own, or an entry's; of `slots` slots each is free or a page's;
-- each entry counts the pages that name it, and they have its bytes. `all` are the lists of pages, one for each owner.
pub record Books (frames slots : ℕ) (all : List (List Page)) (entries : EntriesAre) (pool book : FreeList) : Type 0 where
  pub each_frame : (k : ℕ) → count_of k pool.free + sum_by (frames_held k) all + frames_shared k entries ≡ below k frames
  pub frames_out : pool.out ≡ sum_by private_pages all + entry_count entries
  pub each_slot : (k : ℕ) → count_of k book.free + sum_by (slots_held k) all ≡ below k slots
  pub slots_out : book.out ≡ sum_by swapped_pages all
  pub tickets : (k : ℕ) → count_at entries k ≡ sum_by (tickets_held k) all
  pub places : length entries ≡ frames
  pub reads : All (Reads entries) all
