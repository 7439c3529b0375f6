-- What a debugger is answered.
use Rattle.std.specs.Prelude.{◌≡◌, ◌<◌, ◌≤◌, ℕ, List, true, false, Some, None, length, slice_index}
use Rattle.items.specs.declared.item.What.TheVariants as what
use Rattle.machine.specs.Items.{accepts, run}
use Rattle.machine.specs.Replies.{bytes_at}
use Rattle.machine.specs.Step.{Machine}
use Rattle.seated.specs.Acts.{Sees}
use Rattle.cell.specs.declared.cell.Front.{Front}
use Rattle.cell.specs.declared.seat.Seat.{Seat}
use Rattle.cell.specs.Registers.{register_shown}
use Rattle.cell.specs.Sitting.{Happens, IsFullOf, front_boot}
use Rattle.host.specs.declared.stops.Stop.TheVariants as stop
use Rattle.host.specs.declared.requests.Request.{Request}
use Rattle.host.specs.declared.requests.Request.TheVariants.{Regs, Poke, Read, Write, Break, Clear}
use Rattle.host.specs.declared.requests.Reply.{Reply}
use Rattle.host.specs.declared.requests.Reply.TheVariants.{Registers, Bytes, Done}
use Rattle.host.specs.declared.requests.DebugError.{DebugError}
use Rattle.host.specs.declared.requests.DebugError.TheVariants as error

-- the machine after the log that a seat has seen
abbrev pub machine_seen : {S : Type 0} → Front S → Seat → Machine
machine_seen front seat = run seat.seat.saw (front_boot front)

-- at most 1,024 bytes are read or written
abbrev pub IsSmall : Request → Type 0
IsSmall (Read address count) = count ≤ 1024
IsSmall (Write address bytes) = length bytes ≤ 1024
IsSmall _ = Unit {0}

-- The words are the registers of the machine that the seat has then seen, where the guest's truth still held.
pub record ShowsRegisters {S : Type 0} (front : Front S) (seat seat' : Seat) (words : List ℕ) : Type 0 where
  pub sees : Sees seat.seat seat'.seat
  pub registers : seat'.witness.held ≡ true → (number : ℕ) → number < 38 → slice_index words number ≡ register_shown number (machine_seen front seat')

-- So many bytes are those from an address on of the machine that the seat has then seen, where the guest's truth still held.
pub record ShowsBytes {S : Type 0} (front : Front S) (seat : Seat) (address count : ℕ) (seat' : Seat) (bytes : List ℕ) : Type 0 where
  pub sees : Sees seat.seat seat'.seat
  pub many : length bytes ≡ count
  pub bytes_are : seat'.witness.held ≡ true → bytes_at (machine_seen front seat') address count ≡ Some bytes

-- a request was done, and answered so
abbrev pub Did : {S : Type 0} → Front S → Seat → Request → Seat → Reply → Type 0
Did front seat Regs seat' (Registers words) = ShowsRegisters front seat seat' words
Did front seat (Read address count) seat' (Bytes bytes) = ShowsBytes front seat address count seat' bytes.items
Did front seat (Poke register value) seat' Done = Happens front seat (record { seat = seat.seat.number; what = what.Poke register value }) seat'
Did front seat (Write address bytes) seat' Done = Happens front seat (record { seat = seat.seat.number; what = what.Write address bytes }) seat'
Did front seat (Break address) seat' Done = Sees seat.seat seat'.seat
Did front seat (Clear address) seat' Done = Sees seat.seat seat'.seat
Did front seat request seat' reply = ⊥

-- Why a request was refused: `NoPlace` only where the machine that the seat has then seen has no such bytes or accepts no such write, if the
-- guest's truth still held; `LogFull` only where its log has no room.
abbrev pub WhyRefused : {S : Type 0} → Front S → Request → Seat → DebugError → Type 0
WhyRefused front (Read address count) seat' error.NoPlace = seat'.witness.held ≡ true → bytes_at (machine_seen front seat') address count ≡ None
WhyRefused front (Write address bytes) seat' error.NoPlace = seat'.witness.held ≡ true → accepts (what.Write address bytes) (machine_seen front seat') ≡ false
WhyRefused front (Poke register value) seat' (error.Stop stop.LogFull) = IsFullOf front seat'.seat.saw
WhyRefused front (Write address bytes) seat' (error.Stop stop.LogFull) = IsFullOf front seat'.seat.saw
WhyRefused front (Poke register value) seat' (error.Stop stop.Memory) = Unit {0}
WhyRefused front (Read address count) seat' (error.Stop stop.LogFull) = ⊥
WhyRefused front (Read address count) seat' (error.Stop why) = Unit {0}
WhyRefused front (Write address bytes) seat' (error.Stop why) = Unit {0}
WhyRefused front (Break address) seat' error.NoBreakpoint = Unit {0}
WhyRefused front request seat' error = ⊥
