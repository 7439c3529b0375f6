-- What a page handed back, and where it goes.
use Rattle.std.specs.Prelude.{◌≡◌, ℕ, ◌+◌, ◌<◌, List, length}
use Rattle.frames.specs.Counts.{one_at, count_of}
use Rattle.frames.specs.FreeList.{FreeList}
use Rattle.sharetab.specs.Entries.{EntriesAre, count_at, frames_shared, entry_count}
use Rattle.sharetab.specs.Books.{KeepBytes}
use Rattle.guest_pages.specs.declared.page.Returned.{Returned}
use Rattle.guest_pages.specs.declared.page.Returned.TheVariants.{Nothing, Frame, Ticket, Slot}

-- how many frames, tickets and slots of number k it is
abbrev pub frame_of : ℕ → Returned → ℕ
frame_of k (Frame frame) = one_at k frame.number
frame_of k _ = 0

abbrev pub ticket_of : ℕ → Returned → ℕ
ticket_of k (Ticket ticket) = one_at k ticket
ticket_of k _ = 0

abbrev pub slot_of : ℕ → Returned → ℕ
slot_of k (Slot slot) = one_at k slot
slot_of k _ = 0

-- 1 for what is of the kind, 0 for all else
abbrev pub one_frame : Returned → ℕ
one_frame (Frame frame) = 1
one_frame _ = 0

abbrev pub one_slot : Returned → ℕ
one_slot (Slot slot) = 1
one_slot _ = 0

-- it is out, and so is the frame that may come free
abbrev pub IsOut : FreeList → FreeList → EntriesAre → Returned → Type 0
IsOut pool slots entries Nothing = Unit {0}
IsOut pool slots entries (Frame frame) = 0 < pool.out
IsOut pool slots entries (Ticket ticket) = (0 < pool.out) × (0 < count_at entries ticket)
IsOut pool slots entries (Slot slot) = 0 < slots.out

-- A frame is free again, and so is that of a ticket which was the last one; a slot is free again; a ticket is out no more.
pub record GoesBack (what : Returned) (pool slots : FreeList) (entries : EntriesAre) (pool' slots' : FreeList) (entries' : EntriesAre) : Type 0 where
  pub frames : (k : ℕ) → count_of k pool'.free + frames_shared k entries' ≡ count_of k pool.free + frames_shared k entries + frame_of k what
  pub frames_out : pool'.out + entry_count entries + one_frame what ≡ pool.out + entry_count entries'
  pub free_slots : (k : ℕ) → count_of k slots'.free ≡ count_of k slots.free + slot_of k what
  pub slots_out : slots'.out + one_slot what ≡ slots.out
  pub tickets : (k : ℕ) → count_at entries' k + ticket_of k what ≡ count_at entries k
  pub bytes : KeepBytes entries entries'
  pub places : length entries' ≡ length entries

-- what a resident page hands back: its own frame, or a ticket that is out
abbrev pub IsResident : EntriesAre → Returned → Type 0
IsResident entries Nothing = ⊥
IsResident entries (Frame frame) = Unit {0}
IsResident entries (Ticket ticket) = 0 < count_at entries ticket
IsResident entries (Slot slot) = ⊥

-- it was a ticket, and others of its entry are out
abbrev pub IsStillShared : EntriesAre → Returned → Type 0
IsStillShared entries Nothing = ⊥
IsStillShared entries (Frame frame) = ⊥
IsStillShared entries (Ticket ticket) = 1 < count_at entries ticket
IsStillShared entries (Slot slot) = ⊥

-- a frame came free, but where other tickets of its entry are out; a ticket is out no more
pub record Frees (what : Returned) (entries entries' : EntriesAre) (came_free : List ℕ) : Type 0 where
  pub frames : (k : ℕ) → frames_shared k entries' + count_of k came_free ≡ frames_shared k entries + frame_of k what
  pub frames_out : entry_count entries' + length came_free ≡ entry_count entries + one_frame what
  pub tickets : (k : ℕ) → count_at entries' k + ticket_of k what ≡ count_at entries k
  pub bytes : KeepBytes entries entries'
  pub places : length entries' ≡ length entries
