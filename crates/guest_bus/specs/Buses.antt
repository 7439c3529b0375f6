-- What is seen of a bus whose memory is pages.
use Rattle.std.specs.Prelude.{◌≡◌, ℕ, ◌*◌, List, Option, Some, None, slice_set}
use Rattle.word32.specs.Words.{patched}
use Rattle.devices.specs.Devices.{DevicesAre}
use Rattle.machine.specs.Board.{Board, given_away}
use Rattle.guest_pages.specs.declared.page.Page.{Page}
use Rattle.guest_pages.specs.declared.page.Page.TheVariants.{Given}
use Rattle.guest_pages.specs.declared.page.Returned.{Returned}
use Rattle.guest_pages.specs.declared.page.Returned.TheVariants.{Nothing}
use Rattle.guest_pages.specs.Pages.{page_at, memory_of, handed_back}

pub record GuestBusIs : Type 0 where
  -- the pages of the memory, that of number p at place p
  pub pages : List Page
  -- the console, and the balloon with the pages that were given to it
  pub devices : DevicesAre
  -- the page that was given to the balloon and has not left its place yet
  pub waiting : Option ℕ

-- no page waits to leave its place
abbrev pub IsSettled : GuestBusIs → Type 0
IsSettled b = b.waiting ≡ None

-- the board behind the bus, as if each page were there: a page that waits is zeros
abbrev pub board_of : GuestBusIs → Board
board_of b = record { memory = given_away b.waiting (memory_of b.pages); devices = b.devices }

-- with other pages
abbrev pub with_pages : List Page → GuestBusIs → GuestBusIs
with_pages pages b = record b { pages = pages }

-- with the page of a number replaced
abbrev pub with_page : ℕ → Page → GuestBusIs → GuestBusIs
with_page p page b = with_pages (slice_set b.pages p page) b

-- a board in which a page has other bytes
abbrev pub with_page_bytes : ℕ → List ℕ → Board → Board
with_page_bytes p bytes board = record board { memory = patched board.memory (p * 4096) bytes 4096 }

-- a page that was given leaves its place
abbrev pub pages_settled : Option ℕ → List Page → List Page
pages_settled None pages = pages
pages_settled (Some p) pages = slice_set pages p Given

-- what that page hands back
abbrev pub page_returned : Option ℕ → List Page → Returned
page_returned None pages = Nothing
page_returned (Some p) pages = handed_back (page_at pages p)

-- the bus once the page that waited has left its place
abbrev pub after_settling : GuestBusIs → GuestBusIs
after_settling b = record { pages = pages_settled b.waiting b.pages; devices = b.devices; waiting = None }
