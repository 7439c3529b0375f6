-- What is seen of a guest, and what becomes of it.
use Rattle.std.specs.Prelude.{◌≡◌, ◌≢◌, ℕ, zero, suc, ◌*◌, Option, Some, None, List, [], length}
use Rattle.word32.specs.Pages.{page_number}
use Rattle.items.specs.declared.item.Item.{Item}
use Rattle.items.specs.Entries.{steps_of}
use Rattle.machine.specs.Processor.{Processor}
use Rattle.machine.specs.Step.{Machine, machine_with}
use Rattle.machine.specs.Given.{step_given}
use Rattle.machine.specs.Items.{run, AllAccepted}
use Rattle.machine.specs.Replies.{probe}
use Rattle.guest_log.specs.Logs.{LogIs}
use Rattle.log_seats.specs.Heads.{HeadId, SeatIs}
use Rattle.owned_log.specs.OwnedLogs.{OwnedLogIs, Adds, AddsSteps}
use Rattle.machine.specs.declared.access.Why.{Why}
use Rattle.guest_pages.specs.declared.page.Page.{Page}
use Rattle.guest_pages.specs.declared.page.Returned.{Returned}
use Rattle.guest_pages.specs.Outline.{outline}
use Rattle.guest_bus.specs.Buses.{GuestBusIs, board_of, with_pages, pages_settled, page_returned}
use Rattle.guest.specs.declared.progress.Pause.{Pause}
use Rattle.guest.specs.declared.progress.Pause.TheVariants as pause
use Rattle.guest.specs.declared.stepped.Stepped.{Stepped}
use Rattle.guest.specs.declared.stepped.Stepped.TheVariants.{Done, Need}
use Rattle.guest.specs.Views.{Shows}

pub record GuestIs : Type 0 where
  pub cpu : Processor
  -- its pages and its devices
  pub bus : GuestBusIs
  -- the machine that the guest's image boots
  pub boot : Machine
  pub log : LogIs
  -- which head the log has: a seat of the guest has the same
  pub head : HeadId
  -- how many seats were made
  pub seats : ℕ

abbrev pub guest_of : Processor → GuestBusIs → Machine → OwnedLogIs → GuestIs
guest_of cpu bus boot owned_log =
    record { cpu = cpu; bus = bus; boot = boot; log = owned_log.log; head = owned_log.head; seats = owned_log.seats }

-- The guest's view: the machine that a reference machine with a plain memory of its own is after the items of the guest's log,
-- from the boot of the guest's image.
abbrev pub view_of : GuestIs → Machine
view_of g = run g.log.items g.boot

-- the processor and the memory as they stand, in which a page that is in a slot is zeros
abbrev pub standing : GuestIs → Machine
standing g = machine_with g.cpu (board_of g.bus)

-- Processor, devices and pages are those of the view, a page in a slot by its SHA-256; and each item of the log was accepted.
pub record Intact (g : GuestIs) : Type 0 where
  pub shows : Shows (view_of g) g.cpu g.bus
  pub accepted : AllAccepted g.log.items g.boot

-- the byte at a virtual address lies in a page
abbrev pub LiesIn : Machine → ℕ → ℕ → Type 0
LiesIn m address page = (at : ℕ) × (probe m address ≡ Some at) × (page_number at ≡ page)

-- the memory of the guest as it stands has 4,096 bytes for each page
abbrev pub IsSized : GuestIs → Type 0
IsSized g = length (standing g).board.memory ≡ length g.bus.pages * 4096

-- all of a guest but its pages
abbrev pub without_pages : GuestIs → GuestIs
without_pages g = record g { bus = with_pages [] g.bus }

-- the page that a step needs
abbrev pub need_of : Stepped → Option (ℕ × Why)
need_of (Done returned) = None
need_of (Need page why) = Some (page, why)

-- A step that is made may have given a page to the balloon. Of the pages that were, with bytes that the step may have changed,
-- that page is given now, and what it was in has come back.
pub record Gives (given : Option ℕ) (old : List Page) (returned : Returned) (new : List Page) : Type 0 where
  pub before : List Page
  pub same : outline before ≡ outline old
  pub pages : new ≡ pages_settled given before
  pub what : returned ≡ page_returned given before

-- what came back from a step that is made
abbrev pub HandsBack : Option ℕ → List Page → Stepped → List Page → Type 0
HandsBack given old (Done returned) new = Gives given old returned new
HandsBack given old (Need page why) new = new ≡ old

-- the page that the last of so many steps of a seat gives, where it gives one
abbrev pub last_given : ℕ → ℕ → Machine → Option ℕ
last_given seat zero m = None
last_given seat (suc before) m = step_given (run (steps_of seat before) m)

-- What has become of the pages, and what came back, in a run of steps of which the last one alone may have given a page, and gave this
-- one, if any: where they pause because it did, that page is given now; else it gave none, and each page is where it was.
abbrev pub HasPaused : Option ℕ → List Page → Option Pause → List Page → Type 0
HasPaused given old None new = (given ≡ None) × (outline new ≡ outline old)
HasPaused given old (Some (pause.Need page why)) new = (given ≡ None) × (outline new ≡ outline old)
HasPaused given old (Some (pause.Gave returned)) new = (given ≢ None) × Gives given old returned new

-- how many steps were made by the one at which a run pauses
abbrev pub steps_by : Pause → ℕ
steps_by (pause.Gave returned) = 1
steps_by (pause.Need page why) = 0

-- whether a step was made that pauses a run, or doesn't
abbrev pub IsMade : Option Pause → Type 0
IsMade None = Unit {0}
IsMade (Some (pause.Gave returned)) = Unit {0}
IsMade (Some (pause.Need page why)) = ⊥

-- steps of a seat are added to the log, and all else stays that is neither processor nor memory
pub record LogsSteps (g : GuestIs) (seat : SeatIs) (count : ℕ) (g' : GuestIs) (seat' : SeatIs) : Type 0 where
  pub boot : g'.boot ≡ g.boot
  pub head : g'.head ≡ g.head
  pub seats : g'.seats ≡ g.seats
  pub adds : AddsSteps g.log seat count g'.log seat'

-- an item of a seat is added to the log, and all else stays that is neither processor nor memory
pub record Logs (g : GuestIs) (seat : SeatIs) (i : Item) (g' : GuestIs) (seat' : SeatIs) : Type 0 where
  pub boot : g'.boot ≡ g.boot
  pub head : g'.head ≡ g.head
  pub seats : g'.seats ≡ g.seats
  pub adds : Adds g.log seat i g'.log seat'

-- all of a guest stays, but perhaps its log
pub record LogsOnly (g g' : GuestIs) : Type 0 where
  pub cpu : g'.cpu ≡ g.cpu
  pub bus : g'.bus ≡ g.bus
  pub boot : g'.boot ≡ g.boot
  pub head : g'.head ≡ g.head
  pub seats : g'.seats ≡ g.seats
