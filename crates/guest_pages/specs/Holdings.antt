-- What the pages of a guest hold: how many frames, tickets and slots, of each number and of all numbers.
use Rattle.std.specs.Prelude.{◌≡◌, ℕ, ◌+◌, ◌<◌, ◌^◌, List, length, slice_set, sum_by}
use Rattle.std.specs.List.{All}
use Rattle.frames.specs.Counts.{one_at}
use Rattle.guest_pages.specs.declared.page.Page.{Page}
use Rattle.guest_pages.specs.declared.page.Page.TheVariants.{Private, Shared, Swapped}
use Rattle.guest_pages.specs.Pages.{page_at, AreWhole, HasOwnTicket}
use Rattle.guest_pages.specs.Marks.{AreMarked}

-- how many frames of number k a page has for its own
abbrev pub frame_in : ℕ → Page → ℕ
frame_in k (Private frame) = one_at k frame.number
frame_in k _ = 0

-- how many tickets of the shared frame k a page has
abbrev pub ticket_in : ℕ → Page → ℕ
ticket_in k (Shared share ticket) = one_at k ticket
ticket_in k _ = 0

-- how many slots of number k a page has
abbrev pub slot_in : ℕ → Page → ℕ
slot_in k (Swapped slot digest) = one_at k slot
slot_in k _ = 0

abbrev pub frames_held : ℕ → List Page → ℕ
frames_held k pages = sum_by (frame_in k) pages

abbrev pub tickets_held : ℕ → List Page → ℕ
tickets_held k pages = sum_by (ticket_in k) pages

abbrev pub slots_held : ℕ → List Page → ℕ
slots_held k pages = sum_by (slot_in k) pages

-- 1 for a page of the kind, 0 for each other
abbrev pub one_private : Page → ℕ
one_private (Private frame) = 1
one_private _ = 0

abbrev pub one_shared : Page → ℕ
one_shared (Shared share ticket) = 1
one_shared _ = 0

abbrev pub one_swapped : Page → ℕ
one_swapped (Swapped slot digest) = 1
one_swapped _ = 0

-- how many pages have a frame of their own
abbrev pub private_pages : List Page → ℕ
private_pages pages = sum_by one_private pages

-- how many pages read a shared frame
abbrev pub shared_pages : List Page → ℕ
shared_pages pages = sum_by one_shared pages

-- how many pages are in a slot
abbrev pub swapped_pages : List Page → ℕ
swapped_pages pages = sum_by one_swapped pages

-- how many pages are in a frame, their own or a shared one
abbrev pub resident_pages : List Page → ℕ
resident_pages pages = private_pages pages + shared_pages pages

-- of a page that is replaced, what is counted of it is lost, and what is counted of the new one is gained
abbrev pub IsExchanged : (Page → ℕ) → Type 0
IsExchanged count =
    (pages : List Page) (p : ℕ) (page : Page) → p < length pages →
    sum_by count (slice_set pages p page) + count (page_at pages p) ≡ sum_by count pages + count page

-- the pages of a map, how many of them are private, shared and swapped, and a bit for each of them, whether it is in a frame
pub record AreCounted (pages : List Page) (private shared swapped : ℕ) (bits : List ℕ) : Type 0 where
  pub whole : AreWhole pages
  pub tickets : All HasOwnTicket pages
  pub few : length pages < 2 ^ 32
  pub in_own_frames : private ≡ private_pages pages
  pub in_shared_frames : shared ≡ shared_pages pages
  pub in_slots : swapped ≡ swapped_pages pages
  pub marked : AreMarked pages bits
