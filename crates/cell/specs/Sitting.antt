-- A guest under its lock, the seats of it, and what is seen of both.
use Rattle.std.specs.Prelude.{◌≡◌, ℕ, true, List, Option, [], ◌∷◌}
use Rattle.items.specs.declared.item.Item.{Item}
use Rattle.items.specs.declared.item.What.{What}
use Rattle.items.specs.declared.item.What.TheVariants as what
use Rattle.log_seats.specs.Heads.{HeadId}
use Rattle.machine.specs.Step.{Machine}
use Rattle.machine.specs.Boot.{boot_machine}
use Rattle.machine.specs.Items.{accepts, reply, run}
use Rattle.guest_log.specs.Logs.{IsFull}
use Rattle.guest.specs.Guests.{GuestIs, view_of, Intact}
use Rattle.guest.specs.Views.{pages_seen}
use Rattle.seated.specs.Acts.{Acts}
use Rattle.cell.specs.declared.cell.Front.{Front}
use Rattle.cell.specs.declared.cell.Locked.{Locked}
use Rattle.cell.specs.declared.cell.Cell.{Cell}
use Rattle.cell.specs.declared.seat.Seat.{Seat}
use Rattle.cell.specs.Inputs.{bytes_in}
use Rattle.page_moves.specs.Faith.{Kept}
use Rattle.lent_pages.specs.Contents.{its_slots}
use Rattle.machine_memory.specs.declared.stake.Stake.{Stake}
use Rattle.machine_memory.specs.Memories.{IsLevel}

-- the machine that a front's guest boots
abbrev pub front_boot : {S : Type 0} → Front S → Machine
front_boot front = boot_machine front.profile front.image.value front.pages

-- the head of the log of a cell's guest, and the machine that the guest boots
abbrev pub cell_head : {S : Type 0} → Cell S → HeadId
cell_head cell = cell.front.head.value

abbrev pub cell_boot : {S : Type 0} → Cell S → Machine
cell_boot cell = front_boot cell.front

-- a seat of the guest behind a front
pub record IsOf {S : Type 0} (front : Front S) (seat : Seat) : Type 0 where
  pub its_head : seat.seat.head ≡ front.head.value
  pub its_truth : seat.witness.truth ≡ front.truth.id

-- A seat stays one of its guest, and what it holds true after a call it held true before.
pub record Lasts (seat seat' : Seat) : Type 0 where
  pub same_truth : seat'.witness.truth ≡ seat.witness.truth
  pub held : seat'.witness.held ≡ true → seat.witness.held ≡ true

-- An item of the seat happened to the guest, after this log, for which the seat was legal; the seat has made it, and has seen the log with it.
-- Where the guest's truth still held then, the machine that the log made accepted it.
pub record Happens {S : Type 0} (front : Front S) (seat : Seat) (item : Item) (seat' : Seat) : Type 0 where
  pub before : List Item
  pub acts : Acts seat.seat before (item ∷ []) seat'.seat
  pub accepted : seat'.witness.held ≡ true → accepts item.what (run before (front_boot front)) ≡ true

-- An item of the seat happened to the guest, after this log, for which the seat was legal; the seat has made it, and has seen the log with it.
-- Where the guest's truth still held then, the machine that the log made accepted it, and what was answered is that machine's reply.
pub record Answers {S : Type 0} (front : Front S) (seat : Seat) (item : Item) (seat' : Seat) (answer : Option (List ℕ)) : Type 0 where
  pub before : List Item
  pub acts : Acts seat.seat before (item ∷ []) seat'.seat
  pub answer_is : seat'.witness.held ≡ true → answer ≡ reply item.what (run before (front_boot front))
  pub accepted : seat'.witness.held ≡ true → accepts item.what (run before (front_boot front)) ≡ true

-- a log of these items, of which a front says the greatest number of runs, has no room for more
abbrev pub IsFullOf : {S : Type 0} → Front S → List Item → Type 0
IsFullOf front items = IsFull (record { items = items; room = 0; limit = front.limit })

-- every machine accepts such an item, and no page is needed for it
abbrev pub IsPlain : What → Type 0
IsPlain what.Drain = Unit {0}
IsPlain (what.Target pages) = Unit {0}
IsPlain (what.Poke register value) = Unit {0}
IsPlain _ = ⊥

-- to the slots that the guest's pages are in the bytes of its run were written, as its stake says
abbrev pub RunIsWritten : Stake → GuestIs → Type 0
RunIsWritten stake guest = Kept (its_slots stake.contents) (pages_seen (view_of guest)) guest.bus.pages

-- the swap store was true to digests at first, and so it is for good
abbrev pub IsTrusted : {S : Type 0} → (S → Type 0) → Front S → Type 0
IsTrusted is_true front = is_true front.first.value.first

-- What lies under a guest's lock fits the front: the guest is of this boot and this head, and its run while the truth holds; all bytes that
-- were taken from the queue are the input of its log; and its stake is level for its pages. Where the swap store is true to digests the truth
-- holds, and what was written to the guest's slots is its run's.
pub record Sits {S : Type 0} (is_true : S → Type 0) (front : Front S) (locked : Locked) : Type 0 where
  pub boots : locked.guest.value.boot ≡ front_boot front
  pub its_head : locked.guest.value.head ≡ front.head.value
  pub its_limit : locked.guest.value.log.limit ≡ front.limit
  pub its_truth : locked.keeper.truth ≡ front.truth.id
  pub its_queue : locked.taker.queue ≡ front.queue.id
  pub intact : locked.keeper.holds ≡ true → Intact locked.guest.value
  pub taken : locked.taker.taken ≡ bytes_in locked.guest.value.log.items
  pub level : IsLevel front.first.value locked.stake locked.guest.value.bus.pages
  pub lasts : IsTrusted is_true front → locked.keeper.holds ≡ true
  pub written : IsTrusted is_true front → RunIsWritten locked.stake locked.guest.value

-- the truth of what lies under a lock holds after a call only if it held before
pub record Narrows (locked locked' : Locked) : Type 0 where
  pub held : locked'.keeper.holds ≡ true → locked.keeper.holds ≡ true
