-- What is done by the events of scripts.
use Rattle.std.specs.Prelude.{ℕ, Bool, true, false, ◌≡◌, ◌<◌, ◌≤◌, ◌^◌, nat_lt, if◌then◌else◌, All, length}
use Rattle.world.specs.All.{IsProper, Level, What}
use Rattle.reclaim.specs.declared.level.Level.TheVariants.{High, Soft, Hard, Low}
use Rattle.items.specs.declared.item.What.TheVariants as what
use Rattle.script.specs.declared.event.Event.{Event}
use Rattle.script.specs.declared.event.Event.TheVariants as event
use Rattle.script.specs.Actions.{Action, Single, StepEach, RunEach, ActionLine, Block}
use Rattle.script.specs.Events as script
use Rattle.world.specs.declared.events.Event.{Event as Happening}
use Rattle.world.specs.declared.events.Event.TheVariants as happening
use Rattle.simulation.specs.declared.acts.Act.{Act}
use Rattle.simulation.specs.declared.acts.Act.TheVariants as act

-- An event can be done in a world of so many guests and slots: its guest, register, slot and byte are there, and a debugger reads and
-- writes 1 to 1,024 bytes.
abbrev pub IsFor : ℕ → ℕ → script.Event → Type 0
IsFor guests slots (script.Step guest count) = guest < guests
IsFor guests slots (script.Run guest count) = guest < guests
IsFor guests slots (script.In guest bytes) = guest < guests
IsFor guests slots (script.Drain guest) = guest < guests
IsFor guests slots (script.Target guest pages) = guest < guests
IsFor guests slots (script.Poke guest register value) = (guest < guests) × (register < 38)
IsFor guests slots (script.Write guest address bytes) = (guest < guests) × (0 < length bytes) × (length bytes ≤ 1024)
IsFor guests slots (script.Probe guest address count) = (guest < guests) × (0 < count) × (count ≤ 1024)
IsFor guests slots (script.Fault guest) = guest < guests
IsFor guests slots (script.Scan guest page) = guest < guests
IsFor guests slots (script.Evict guest page) = guest < guests
IsFor guests slots script.Sample = Unit {0}
IsFor guests slots script.Level = Unit {0}
IsFor guests slots script.Audit = Unit {0}
IsFor guests slots (script.AuditGuest guest) = guest < guests
IsFor guests slots (script.Dump guest) = guest < guests
IsFor guests slots (script.Stats guest) = guest < guests
IsFor guests slots (script.Damage slot byte) = (slot < slots) × (byte < 4096)

-- the same of what a line says is done, and of each line of a block; each guest that there is can make steps
abbrev pub IsActionFor : ℕ → ℕ → Action → Type 0
IsActionFor guests slots (Single e) = IsFor guests slots e
IsActionFor guests slots (StepEach count) = Unit {0}
IsActionFor guests slots (RunEach count) = Unit {0}

abbrev pub IsLineFor : ℕ → ℕ → ActionLine → Type 0
IsLineFor guests slots line = IsActionFor guests slots line.action

abbrev pub IsBlockFor : ℕ → ℕ → Block → Type 0
IsBlockFor guests slots block = All (IsLineFor guests slots) block.lines

-- a register that an event writes is there
abbrev pub HasRegister : Event → Type 0
HasRegister (event.Poke guest register value) = register < 38
HasRegister _ = Unit {0}

-- ---- acts

-- an item of one of a guest's seats happens to it
abbrev pub item_event : ℕ → ℕ → What → Happening
item_event guest seat what = happening.Input guest (record { seat = seat; what = what })

-- a page is scanned, or evicted, if some memory has one of its number
abbrev pub scan_act : ℕ → ℕ → Act
scan_act guest page = if nat_lt page (2 ^ 20) then act.World (happening.Scan guest page) else act.Skip

abbrev pub evict_act : ℕ → ℕ → Act
evict_act guest page = if nat_lt page (2 ^ 20) then act.World (happening.Evict guest page) else act.Skip

-- What is done by an event. Input is of seat 0, what is done to the console and the balloon of seat 1, and a write to a register of seat 3.
abbrev pub act_of : Event → Act
act_of (event.Step guest count) = act.World (happening.Steps guest count)
act_of (event.Run guest count) = act.World (happening.Run guest count)
act_of (event.In guest bytes) = act.World (happening.Feed guest bytes)
act_of (event.Drain guest) = act.World (item_event guest 1 what.Drain)
act_of (event.Target guest pages) = act.World (item_event guest 1 (what.Target pages))
act_of (event.Poke guest register value) = act.World (item_event guest 3 (what.Poke register value))
act_of (event.Write guest address bytes) = act.World (happening.Write guest address bytes)
act_of (event.Probe guest address count) = act.World (happening.Probe guest address count)
act_of (event.Fault guest) = act.World (happening.Fault guest)
act_of (event.Scan guest page) = scan_act guest page
act_of (event.Evict guest page) = evict_act guest page
act_of event.Sample = act.World happening.Sample
act_of event.Level = act.World happening.Level
act_of event.Audit = act.Audit
act_of (event.AuditGuest guest) = act.Pages guest
act_of (event.Dump guest) = act.Dump guest
act_of (event.Stats guest) = act.Stats guest
act_of (event.Damage slot byte) = act.Damage slot byte

-- the guest is there that is shown something of
abbrev pub HasGuest : ℕ → Happening → Type 0
HasGuest guests (happening.Input g item) = g < guests
HasGuest guests (happening.Probe g address count) = g < guests
HasGuest guests (happening.Write g address bytes) = g < guests
HasGuest guests _ = Unit {0}

-- it can be done in a world of so many guests and slots
abbrev pub IsDoable : ℕ → ℕ → Act → Type 0
IsDoable guests slots (act.World e) = IsProper e × HasGuest guests e
IsDoable guests slots act.Skip = Unit {0}
IsDoable guests slots act.Audit = Unit {0}
IsDoable guests slots (act.Pages g) = g < guests
IsDoable guests slots (act.Dump g) = g < guests
IsDoable guests slots (act.Stats g) = g < guests
IsDoable guests slots (act.Damage slot byte) = (slot < slots) × (byte < 4096)

-- pages are swapped out by a turn of the policy at this level
abbrev pub is_scarce : Level → Bool
is_scarce High = false
is_scarce Soft = false
is_scarce Hard = true
is_scarce Low = true

-- It takes no long time, where a turn of the policy would be at this level: it makes fewer steps than this, or swaps out no page by such a turn.
abbrev pub IsShort : Level → Act → Type 0
IsShort level (act.World (happening.Steps g count)) = count < 4096
IsShort level (act.World (happening.Run g count)) = count < 4096
IsShort level (act.World happening.Level) = is_scarce level ≡ false
IsShort level _ = Unit {0}

-- it damages no slot
abbrev pub IsHarmless : Act → Type 0
IsHarmless (act.Damage slot byte) = ⊥
IsHarmless _ = Unit {0}
