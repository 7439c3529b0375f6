-- What a move of pages does to the counts: what one collection loses, another gains.
use Rattle.std.specs.Prelude.{◌≡◌, ℕ, ◌+◌, ◌≤◌, List, [], length}
use Rattle.frames.specs.Counts.{one_at, count_of, below}
use Rattle.frames.specs.FreeList.{FreeList}
use Rattle.sharetab.specs.Entries.{EntriesAre, entry_at, count_at, HasBytes, frames_shared, entry_count}
use Rattle.sharetab.specs.Books.{KeepBytes}
use Rattle.guest_pages.specs.declared.page.Page.{Page}
use Rattle.guest_pages.specs.declared.page.PageKind.TheVariants.{Shared}
use Rattle.guest_pages.specs.Pages.{page_at, kind_at, shown, ticket_of}
use Rattle.guest_pages.specs.Holdings.{frames_held, slots_held, tickets_held, private_pages, swapped_pages}

-- ---- free lists

-- a number that was free is out
pub record Takes (old : FreeList) (number : ℕ) (new : FreeList) : Type 0 where
  pub numbers : (k : ℕ) → count_of k old.free ≡ count_of k new.free + one_at k number
  pub out : new.out ≡ old.out + 1

-- a number that was out is free
pub record Gives (old : FreeList) (number : ℕ) (new : FreeList) : Type 0 where
  pub numbers : (k : ℕ) → count_of k new.free ≡ count_of k old.free + one_at k number
  pub out : new.out + 1 ≡ old.out

-- the same numbers are free, and as many are out
pub record SameNumbers (old new : FreeList) : Type 0 where
  pub numbers : (k : ℕ) → count_of k new.free ≡ count_of k old.free
  pub out : new.out ≡ old.out

-- ---- pages with what lies around them

-- Each frame is free, a page's own or an entry's before and after, but for those that came free, which are the caller's.
pub record MovesFrames (pages : List Page) (pool : FreeList) (entries : EntriesAre) (pages' : List Page) (pool' : FreeList) (entries' : EntriesAre) (came_free : List ℕ) : Type 0 where
  pub numbers : (k : ℕ) → count_of k pool'.free + frames_held k pages' + frames_shared k entries' + count_of k came_free ≡ count_of k pool.free + frames_held k pages + frames_shared k entries
  pub out : pool'.out + private_pages pages + entry_count entries ≡ pool.out + private_pages pages' + entry_count entries' + length came_free

-- Each slot is free or a page's before and after, and those that the caller had taken are a page's or free after.
pub record MovesSlots (pages : List Page) (slots : FreeList) (pages' : List Page) (slots' : FreeList) (taken : List ℕ) : Type 0 where
  pub numbers : (k : ℕ) → count_of k slots'.free + slots_held k pages' ≡ count_of k slots.free + slots_held k pages + count_of k taken
  pub out : slots'.out + swapped_pages pages + length taken ≡ slots.out + swapped_pages pages'

-- Each ticket is a page's before and after; an entry of which a ticket is out keeps its bytes, and each place stays.
pub record MovesTickets (pages : List Page) (entries : EntriesAre) (pages' : List Page) (entries' : EntriesAre) : Type 0 where
  pub numbers : (k : ℕ) → count_at entries' k + tickets_held k pages ≡ count_at entries k + tickets_held k pages'
  pub bytes : KeepBytes entries entries'
  pub places : length entries' ≡ length entries

-- Nothing is lost or made between pages, the free frames, the free slots and the entries.
pub record Conserves (pages : List Page) (pool book : FreeList) (entries : EntriesAre) (pages' : List Page) (pool' book' : FreeList) (entries' : EntriesAre) : Type 0 where
  pub frames : MovesFrames pages pool entries pages' pool' entries' []
  pub slots : MovesSlots pages book pages' book' []
  pub tickets : MovesTickets pages entries pages' entries'

-- ---- pages that read shared frames

-- each shared page has the bytes of its entry
abbrev pub Reads : EntriesAre → List Page → Type 0
Reads entries pages = (p : ℕ) → kind_at pages p ≡ Shared → HasBytes (shown (page_at pages p)) (entry_at entries (ticket_of (page_at pages p)))

-- the tickets that the pages have are out
abbrev pub Covered : EntriesAre → List Page → Type 0
Covered entries pages = (k : ℕ) → tickets_held k pages ≤ count_at entries k

-- a frame of the pages is one page's own, no entry's, and has a place among the entries
abbrev pub OwnOnce : EntriesAre → List Page → Type 0
OwnOnce entries pages = (k : ℕ) → frames_held k pages + frames_shared k entries ≤ below k (length entries)
