-- A processor and pages that are those of a machine.
use Rattle.std.specs.Prelude.{◌≡◌, ℕ, ◌*◌, Bool, true, false, ◌&&◌, nat_lt, List, length}
use Rattle.machine.specs.Processor.{Processor}
use Rattle.machine.specs.Board.{page_bytes}
use Rattle.machine.specs.Step.{Machine}
use Rattle.guest_pages.specs.declared.page.Page.{Page}
use Rattle.guest_pages.specs.declared.page.PageKind.{PageKind}
use Rattle.guest_pages.specs.declared.page.PageKind.TheVariants.{Zero, Given, Private, Shared, Swapped}
use Rattle.guest_pages.specs.Pages.{kind_at}
use Rattle.page_moves.specs.Faith.{Faithful}
use Rattle.guest_bus.specs.Buses.{GuestBusIs}

-- the bytes of a machine's pages
abbrev pub pages_seen : Machine → ℕ → List ℕ
pages_seen m page = page_bytes page m.board.memory

-- Processor and devices are the machine's, and so is each page, or its SHA-256 where it is in a slot.
pub record Shows (m : Machine) (processor : Processor) (b : GuestBusIs) : Type 0 where
  pub cpu : processor ≡ m.cpu
  pub devices : b.devices ≡ m.board.devices
  pub size : length m.board.memory ≡ length b.pages * 4096
  pub pages : Faithful (pages_seen m) b.pages

-- a page of this kind is in no slot
abbrev pub is_here : PageKind → Bool
is_here Zero = true
is_here Given = true
is_here Private = true
is_here Shared = true
is_here Swapped = false

-- the pages that are in no slot
abbrev pub here : List Page → ℕ → Bool
here pages page = nat_lt page (length pages) && is_here (kind_at pages page)
