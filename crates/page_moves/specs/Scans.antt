-- What the scan of a page is answered, and what becomes of the page.
use Rattle.std.specs.Prelude.{◌≡◌, ℕ, ◌<◌, List, [], ◌∷◌, length, slice_set}
use Rattle.sha2.specs.Sha256.{sha256}
use Rattle.sharetab.specs.Entries.{EntriesAre, entry_at, HasBytes, HasDigest}
use Rattle.sharetab.specs.Books.{Admits, Joins}
use Rattle.sharetab.specs.Hints.{HintsAre, Notes}
use Rattle.sharetab.specs.Shares.{SharesAre, Answers}
use Rattle.sharetab.specs.declared.guest_page.GuestPage.{GuestPage}
use Rattle.sharetab.specs.declared.shares.Offer.TheVariants as offer
use Rattle.guest_pages.specs.declared.page.Page.{Page}
use Rattle.guest_pages.specs.declared.page.PageKind.TheVariants.{Private}
use Rattle.guest_pages.specs.Pages.{page_at, kind_at, shown, own_frame, page_of_entry, ticket_of}
use Rattle.page_moves.specs.declared.scan.Scan.{Scan}
use Rattle.page_moves.specs.declared.scan.Scan.TheVariants.{Noted, Admitted, Joined, Skipped, Memory}

-- there is such a page, and it is in a frame of its own
abbrev pub CanBeShared : List Page → ℕ → Type 0
CanBeShared pages p = (p < length pages) × (kind_at pages p ≡ Private)

-- some entry has just these bytes
abbrev pub AnEntryHas : EntriesAre → List ℕ → Type 0
AnEntryHas entries bytes = (k : ℕ) × HasBytes bytes (entry_at entries k)

-- no entry has just these bytes
abbrev pub NoEntryHas : EntriesAre → List ℕ → Type 0
NoEntryHas entries bytes = (k : ℕ) → HasBytes bytes (entry_at entries k) → ⊥

-- what the scan of a page with these bytes is answered
abbrev pub Answered : SharesAre → List Page → GuestPage → Scan → Type 0
Answered shares pages page Joined = CanBeShared pages page.page × AnEntryHas shares.entries (shown (page_at pages page.page))
Answered shares pages page (Admitted other) = CanBeShared pages page.page × NoEntryHas shares.entries (shown (page_at pages page.page)) × Answers shares (sha256 (shown (page_at pages page.page))) page (offer.Match other)
Answered shares pages page Noted = CanBeShared pages page.page × NoEntryHas shares.entries (shown (page_at pages page.page)) × Answers shares (sha256 (shown (page_at pages page.page))) page offer.Noted
Answered shares pages page Skipped = CanBeShared pages page.page → NoEntryHas shares.entries (shown (page_at pages page.page)) × HasDigest shares.entries (sha256 (shown (page_at pages page.page)))
Answered shares pages page Memory = CanBeShared pages page.page

-- the page reads the entry at its ticket's place, which has its bytes, and its own frame came free
pub record JoinsEntry (entries : EntriesAre) (pages : List Page) (p : ℕ) (entries' : EntriesAre) (pages' : List Page) (came_free : List ℕ) : Type 0 where
  pub page : pages' ≡ slice_set pages p (page_of_entry (record { number = ticket_of (page_at pages' p); bytes = shown (page_at pages p) }))
  pub equal : HasBytes (shown (page_at pages p)) (entry_at entries (ticket_of (page_at pages' p)))
  pub entry : Joins entries (ticket_of (page_at pages' p)) entries'
  pub frame : came_free ≡ (own_frame (page_at pages p)).number ∷ []

-- the page's own frame is an entry, and the page reads it
pub record BecomesEntry (entries : EntriesAre) (pages : List Page) (p : ℕ) (entries' : EntriesAre) (pages' : List Page) (came_free : List ℕ) : Type 0 where
  pub page : pages' ≡ slice_set pages p (page_of_entry (own_frame (page_at pages p)))
  pub entry : Admits entries (own_frame (page_at pages p)) entries'
  pub frame : came_free ≡ []

-- no page and no entry changed
pub record NothingComes (entries : EntriesAre) (pages : List Page) (entries' : EntriesAre) (pages' : List Page) (came_free : List ℕ) : Type 0 where
  pub page : pages' ≡ pages
  pub entry : entries' ≡ entries
  pub frame : came_free ≡ []

-- what becomes of the page, by the answer
abbrev pub Comes : EntriesAre → List Page → ℕ → Scan → EntriesAre → List Page → List ℕ → Type 0
Comes entries pages p Joined entries' pages' came_free = JoinsEntry entries pages p entries' pages' came_free
Comes entries pages p (Admitted other) entries' pages' came_free = BecomesEntry entries pages p entries' pages' came_free
Comes entries pages p Noted entries' pages' came_free = NothingComes entries pages entries' pages' came_free
Comes entries pages p Skipped entries' pages' came_free = NothingComes entries pages entries' pages' came_free
Comes entries pages p Memory entries' pages' came_free = NothingComes entries pages entries' pages' came_free

-- only a page that is noted changes the hints, and only its own
abbrev pub HintsAfter : HintsAre → List ℕ → GuestPage → Scan → HintsAre → Type 0
HintsAfter old digest page Noted new = Notes old digest page new
HintsAfter old digest page Joined new = new ≡ old
HintsAfter old digest page (Admitted other) new = new ≡ old
HintsAfter old digest page Skipped new = new ≡ old
HintsAfter old digest page Memory new = new ≡ old
