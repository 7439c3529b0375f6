-- The pages of a guest, and the memory that they are.
use Rattle.std.specs.Prelude.{◌≡◌, ℕ, ◌*◌, ◌<◌, ◌≤◌, Bool, true, false, List, [], length, map, take, drop, slice_index_or}
use Rattle.std.specs.List.{flat_map, All}
use Rattle.word32.specs.Zeros.{zeros}
use Rattle.frames.specs.Frames.{FrameIs}
use Rattle.guest_pages.specs.declared.page.Page.{Page}
use Rattle.guest_pages.specs.declared.page.Page.TheVariants as page
use Rattle.guest_pages.specs.declared.page.PageKind.{PageKind}
use Rattle.guest_pages.specs.declared.page.PageKind.TheVariants.{Zero, Given, Private, Shared, Swapped}
use Rattle.guest_pages.specs.declared.page.Returned.{Returned}
use Rattle.guest_pages.specs.declared.page.Returned.TheVariants as returned

-- the page of a number
abbrev pub page_at : List Page → ℕ → Page
page_at pages p = slice_index_or pages p page.Zero

abbrev pub kind_of : Page → PageKind
kind_of page.Zero = Zero
kind_of page.Given = Given
kind_of (page.Private frame) = Private
kind_of (page.Shared share ticket) = Shared
kind_of (page.Swapped slot digest) = Swapped

abbrev pub kinds_of : List Page → List PageKind
kinds_of pages = map kind_of pages

abbrev pub kind_at : List Page → ℕ → PageKind
kind_at pages p = kind_of (page_at pages p)

-- a page of this kind is in a frame
abbrev pub is_resident : PageKind → Bool
is_resident Private = true
is_resident Shared = true
is_resident _ = false

-- no page from one number on to below another is in a frame
abbrev pub NoneInFrame : List Page → ℕ → ℕ → Type 0
NoneInFrame pages from to = (p : ℕ) → from ≤ p → p < to → is_resident (kind_at pages p) ≡ false

-- the bytes that a page shows: those in its frame, zeros where it has none
abbrev pub shown : Page → List ℕ
shown (page.Private frame) = frame.bytes
shown (page.Shared share ticket) = share.bytes
shown _ = zeros 4096

-- the bytes of all pages, one after another
abbrev pub memory_of : List Page → List ℕ
memory_of pages = flat_map shown pages

-- the bytes of a page in a memory
abbrev pub page_part : ℕ → List ℕ → List ℕ
page_part p memory = take 4096 (drop (p * 4096) memory)

-- each page has 4,096 bytes
abbrev pub AreWhole : List Page → Type 0
AreWhole pages = All (λ page. length (shown page) ≡ 4096) pages

-- a shared page has the ticket of the frame that it reads
abbrev pub HasOwnTicket : Page → Type 0
HasOwnTicket (page.Shared share ticket) = ticket ≡ share.number
HasOwnTicket _ = Unit {0}

-- the frame that a page has for its own
abbrev pub own_frame : Page → FrameIs
own_frame (page.Private frame) = frame
own_frame _ = record { number = 0; bytes = [] }

-- a page that reads a shared frame by a ticket
abbrev pub page_of_entry : FrameIs → Page
page_of_entry frame = page.Shared frame frame.number

-- the number of a shared page's ticket
abbrev pub ticket_of : Page → ℕ
ticket_of (page.Shared share ticket) = ticket
ticket_of _ = 0

-- the slot that a swapped page is in
abbrev pub slot_of : Page → ℕ
slot_of (page.Swapped slot digest) = slot
slot_of _ = 0

-- the SHA-256 of a swapped page's bytes
abbrev pub digest_of : Page → List ℕ
digest_of (page.Swapped slot digest) = digest
digest_of _ = []

-- what a page hands back as it leaves its place
abbrev pub handed_back : Page → Returned
handed_back page.Zero = returned.Nothing
handed_back page.Given = returned.Nothing
handed_back (page.Private frame) = returned.Frame frame
handed_back (page.Shared share ticket) = returned.Ticket ticket
handed_back (page.Swapped slot digest) = returned.Slot slot
