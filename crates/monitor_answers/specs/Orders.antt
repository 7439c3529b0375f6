-- What each order leads to.
use Rattle.std.specs.Prelude.{◌≡◌, ℕ, ◌<◌, ◌≤◌, ◌⊎◌, List, Option, Some, None, length, ◌++◌, take, Result, Ok, Err}
use Rattle.std.specs.Prelude.{IsUtf8}
use Rattle.items.specs.declared.item.What.TheVariants as what
use Rattle.guest_pages.specs.declared.page.Page.{Page}
use Rattle.guest_log.specs.declared.stop.Stop.{Stop}
use Rattle.guest_log.specs.declared.stop.Stop.TheVariants as stop
use Rattle.seated.specs.Acts.{Sees}
use Rattle.console_queue.specs.Queues.{WasFull}
use Rattle.machine_memory.specs.Audits.{IsCountOf}
use Rattle.cell.specs.declared.cell.Cell.{Cell}
use Rattle.cell.specs.declared.cell.Front.{Front}
use Rattle.cell.specs.Sitting.{Answers, Happens, IsFullOf}
use Rattle.monitor.specs.Orders.{Order, Guests, Books, Level, Tax, Target, Hold, Go, Log, In, Drain, Room, Help, Quit, LineFault, Command, Number, Guest, Range, order_of}
use Rattle.monitor.specs.Answers.{IsInput}
use Rattle.monitor.specs.declared.fault.Fault.{Fault}
use Rattle.monitor.specs.declared.fault.Fault.TheVariants as fault
use Rattle.host.specs.declared.host.Host.{Host}
use Rattle.monitor_answers.specs.declared.answer.Answer.{Answer}
use Rattle.monitor_answers.specs.declared.answer.Answer.TheVariants as answer
use Rattle.monitor_answers.specs.declared.hand.MonitorHand.{MonitorHand}
use Rattle.monitor_answers.specs.Hands.{AtHand}
use Rattle.monitor_answers.specs.Lines.{AreLines}

-- an order of a host of so many guests: it names one of them, and a tax is below 100
abbrev pub IsOrderOf : ℕ → Order → Type 0
IsOrderOf guests (Tax percent) = percent < 100
IsOrderOf guests (Target guest pages) = guest < guests
IsOrderOf guests (Hold guest) = guest < guests
IsOrderOf guests (Go guest) = guest < guests
IsOrderOf guests (Log guest) = guest < guests
IsOrderOf guests (In guest bytes) = guest < guests
IsOrderOf guests (Drain guest) = guest < guests
IsOrderOf guests order = Unit {0}

-- an item of the seat was not made, for this reason: the seat has looked at the log
abbrev pub IsStopped : {S : Type 0} → Front S → MonitorHand → Stop → MonitorHand → Type 0
IsStopped front hand why hand' = (hand'.feed ≡ hand.feed) × Sees hand.seat.seat hand'.seat.seat × (why ≡ stop.LogFull → IsFullOf front hand'.seat.seat.saw)

-- a target was asked for
abbrev pub Targets : {S : Type 0} → ℕ → Answer → Front S → MonitorHand → MonitorHand → Type 0
Targets pages answer.Done front hand hand' =
    (pages ≤ front.pages) × (hand'.feed ≡ hand.feed) × Happens front hand.seat (record { seat = hand.seat.seat.number; what = what.Target pages }) hand'.seat
Targets pages (answer.Refused fault.Range) front hand hand' = (front.pages < pages) × (hand' ≡ hand)
Targets pages (answer.Stopped why) front hand hand' = IsStopped front hand why hand'
Targets pages answer front hand hand' = ⊥

-- the console's output was asked for
abbrev pub Drains : {S : Type 0} → ℕ → Answer → Front S → MonitorHand → MonitorHand → Type 0
Drains guest (answer.Output number bytes) front hand hand' =
    (number ≡ guest) × (hand'.feed ≡ hand.feed) × Answers front hand.seat (record { seat = hand.seat.seat.number; what = what.Drain }) hand'.seat (Some bytes.items)
Drains guest (answer.Stopped why) front hand hand' = IsStopped front hand why hand'
Drains guest answer front hand hand' = ⊥

-- Bytes for the console were put, the first of them first, and fewer than all only where as many waited as there is room for.
abbrev pub Puts : {S : Type 0} → ℕ → List ℕ → Answer → Front S → MonitorHand → MonitorHand → Type 0
Puts guest bytes (answer.Put number count) front hand hand' =
    (number ≡ guest) × (hand'.seat ≡ hand.seat) × (count ≤ length bytes) × (hand'.feed ≡ record hand.feed { put = hand.feed.put ++ take count bytes })
    × (count < length bytes → WasFull front.queue.room hand'.feed.put)
Puts guest bytes answer front hand hand' = ⊥

-- how the guests stand was asked for
abbrev pub IsList : {S : Type 0} → List (Cell S) → Answer → Type 0
IsList cells (answer.Guests lines) = AreLines cells lines.items
IsList cells (answer.Refused fault.Memory) = Unit {0}
IsList cells said = ⊥

-- the sizes of a guest's log were asked for
abbrev pub IsLog : ℕ → Answer → Type 0
IsLog guest (answer.Log number items runs) = number ≡ guest
IsLog guest said = ⊥

-- what an order leads to: what is answered, and what becomes of the hands, which are as they were where no item is made and no byte put
abbrev pub Leads : {S G : Type 0} → Host S G → List MonitorHand → Order → List MonitorHand → Answer → Type 0
Leads host hands Guests hands' said = (hands' ≡ hands) × IsList host.guests.cells.items said
Leads host hands Books hands' (answer.Books counts) =
    (hands' ≡ hands) × ((all : List (List Page)) × (length all ≡ host.guests.memory.books.key.guests) × IsCountOf host.guests.memory.books.key all counts)
Leads host hands Level hands' (answer.Level level) = hands' ≡ hands
Leads host hands (Tax percent) hands' answer.Done = hands' ≡ hands
Leads host hands (Target guest pages) hands' said = AtHand host.guests.cells.items hands guest hands' (Targets pages said)
Leads host hands (Hold guest) hands' answer.Done = hands' ≡ hands
Leads host hands (Go guest) hands' answer.Done = hands' ≡ hands
Leads host hands (Log guest) hands' said = (hands' ≡ hands) × IsLog guest said
Leads host hands (In guest bytes) hands' said = AtHand host.guests.cells.items hands guest hands' (Puts guest bytes said)
Leads host hands (Drain guest) hands' said = AtHand host.guests.cells.items hands guest hands' (Drains guest said)
Leads host hands Room hands' (answer.Room left) = (hands' ≡ hands) × (left ≡ host.left_over)
Leads host hands Help hands' answer.Help = hands' ≡ hands
Leads host hands Quit hands' answer.Done = hands' ≡ hands
Leads host hands order hands' said = ⊥

-- what an order leads to that was asked for by a line: the host is to end where it is `quit`, and nothing is answered
abbrev pub HearsOrder : {S G : Type 0} → Host S G → List MonitorHand → Order → List MonitorHand → Option Answer → Type 0
HearsOrder host hands Quit hands' None = hands' ≡ hands
HearsOrder host hands Quit hands' (Some said) = ⊥
HearsOrder host hands order hands' None = ⊥
HearsOrder host hands order hands' (Some said) = Leads host hands order hands' said

-- nothing was done, and this fault is told
abbrev pub IsFault : List MonitorHand → Fault → List MonitorHand → Option Answer → Type 0
IsFault hands fault hands' said = (hands' ≡ hands) × (said ≡ Some (answer.Refused fault))

-- what a line leads to that is an order, or has this fault first; bytes for a console may find no memory
abbrev pub Hears : {S G : Type 0} → Host S G → List MonitorHand → Result Order LineFault → List MonitorHand → Option Answer → Type 0
Hears host hands (Ok order) hands' said = HearsOrder host hands order hands' said ⊎ (IsFault hands fault.Memory hands' said × IsInput (Ok order))
Hears host hands (Err Command) hands' said = IsFault hands fault.Command hands' said
Hears host hands (Err Number) hands' said = IsFault hands fault.Number hands' said
Hears host hands (Err Guest) hands' said = IsFault hands fault.Guest hands' said
Hears host hands (Err Range) hands' said = IsFault hands fault.Range hands' said

-- the order that a line is, in a host of so many guests, or its first fault; a line that isn't UTF-8 is no command
pub record Reads (guests : ℕ) (line : List ℕ) (found : Result Order LineFault) : Type 0 where
  pub text : IsUtf8 line → found ≡ order_of guests line
  pub no_text : ¬ (IsUtf8 line) → found ≡ Err Command
