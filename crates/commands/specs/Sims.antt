-- What is replied to a script.
use Rattle.std.specs.Prelude.{◌≡◌, ℕ, Bool, false, true, All, List, Option, None, Some, Ok, length, map}
use Rattle.mips_cp0.specs.Profiles.{profile_numbers}
use Rattle.mips_cp0.specs.declared.profile.Profile.{Profile}
use Rattle.mips_cp0.specs.declared.profile.Profile.TheVariants.{Two}
use Rattle.script.specs.Courses.{LineEvent, course_of}
use Rattle.script.specs.declared.header.Fail.{Fail}
use Rattle.script.specs.declared.header.GuestLine.{GuestLine as GuestLineCode}
use Rattle.script.specs.declared.header.Header.{Header as HeaderCode}
use Rattle.script.specs.declared.header.Script.{Script as ScriptCode}
use Rattle.script.specs.Scripts.{script_of}
use Rattle.script.specs.Views.{script_view}
use Rattle.booting.specs.declared.asked.Config.{Config}
use Rattle.booting.specs.declared.asked.NewGuest.{NewGuest}
use Rattle.world.specs.Boots.{AreAdmitted, AreWithinLimits}
use Rattle.world.specs.Worlds.{StoreFacts}
use Rattle.simulation.specs.Transcripts.{BreaksOff, WritesTranscript}
use Rattle.swapstore.specs.Faults.{store_of, left_of, with_fault}
use Rattle.swapstore.specs.Memories.{MemoryIs, AreTold, stored_at}
use Rattle.swapstore.specs.declared.fault.FaultStore.{FaultStore}

-- the profile of a script's guests, by the number that its header says: the second where it says none
abbrev pub IsProfileOf : Option ℕ → Profile → Type 0
IsProfileOf None profile = profile ≡ Two
IsProfileOf (Some number) profile = (profile_numbers profile).number ≡ number

-- the pages, the shares and the minimum of a guest, as a line of the header has them; a minimum that isn't given is 2
abbrev pub line_numbers : GuestLineCode → ℕ × ℕ × ℕ
line_numbers line = (line.pages, line.shares, elim line.minimum [ None ↦ 2 | Some minimum ↦ minimum ])

abbrev pub numbers_of : NewGuest → ℕ × ℕ × ℕ
numbers_of guest = (guest.pages, guest.shares, guest.minimum)

-- the world that a header asks for, in which a guest's log may have 1,048,576 runs at most
abbrev pub config_of : HeaderCode → Config
config_of header = record { frames = header.frames; log_runs = 1048576; admit = header.admit }

-- ---- stores

-- no byte of a store in memory was damaged: it is honest
abbrev pub IsWhole : MemoryIs → Type 0
IsWhole store = store.damaged ≡ false

-- what was last written to a slot of it, and what a read of the slot gives
abbrev pub slot_in : MemoryIs → ℕ → Option (List ℕ)
slot_in store slot = Some (stored_at store.pages slot).last

abbrev pub IsGiven : MemoryIs → ℕ → List ℕ → Type 0
IsGiven store slot bytes = bytes ≡ (stored_at store.pages slot).lies

-- what is said of such a store, and of one of which one call fails
abbrev pub in_memory : StoreFacts MemoryIs
in_memory = record { held = slot_in; gives = IsGiven; honest = IsWhole; true_to_digests = AreTold; slots = λ s. length s.pages; failed = λ s. 0 }

abbrev pub in_failing : StoreFacts (FaultStore MemoryIs)
in_failing = record {
  held = λ s. slot_in (store_of s);
  gives = λ s. IsGiven (store_of s);
  honest = λ s. IsWhole (store_of s);
  true_to_digests = λ s. AreTold (store_of s);
  slots = λ s. length (store_of s).pages;
  failed = λ s. with_fault (left_of s) 0;
}

-- What is written behind known bytes is the transcript of a course of events, whole or of its first events.
abbrev pub IsTold : {Store : Type 0} → Bool → StoreFacts Store → Bool → Config → ℕ → List NewGuest → Store → List LineEvent → Option (List ℕ) → Option (List ℕ) → Type 0
IsTold true facts numbered config seed guests store course known known' = WritesTranscript facts numbered config seed guests store course known known'
IsTold false facts numbered config seed guests store course known known' = BreaksOff facts numbered config seed guests store course known known'

-- it is that of a world over a store in memory that is whole and has so many slots, by the words of a seed
pub record IsOverMemory (whole numbered : Bool) (config : Config) (seed slots : ℕ) (guests : List NewGuest) (course : List LineEvent) (known known' : Option (List ℕ)) : Type 0 where
  pub store : MemoryIs
  pub sound : IsWhole store
  pub count : length store.pages ≡ slots
  pub told : IsTold whole in_memory numbered config seed guests store course known known'

-- the same over such a store of which one call fails
pub record IsOverFailing (whole numbered : Bool) (config : Config) (seed slots : ℕ) (guests : List NewGuest) (course : List LineEvent) (known known' : Option (List ℕ)) : Type 0 where
  pub store : FaultStore MemoryIs
  pub sound : IsWhole (store_of store)
  pub count : length (store_of store).pages ≡ slots
  pub told : IsTold whole in_failing numbered config seed guests store course known known'

-- over a store of which no call fails, or the one that a header names
abbrev pub IsOver : Option Fail → Bool → Bool → Config → ℕ → ℕ → List NewGuest → List LineEvent → Option (List ℕ) → Option (List ℕ) → Type 0
IsOver None whole numbered config seed slots guests course known known' = IsOverMemory whole numbered config seed slots guests course known known'
IsOver (Some fail) whole numbered config seed slots guests course known known' = IsOverFailing whole numbered config seed slots guests course known known'

-- ---- the whole

-- What is written behind known bytes are the replies to the script that a text is, to all events or to the first of them, each behind the
-- number of its line or without it, in a world that is booted with its guests, each of the profile that the header says, with an image and with
-- the pages, shares and minimum of its line, and admitted by these where the header asks for that: the events that its blocks come to are done one after
-- another, by the words of the generator of the header's seed, and whatever they do, what is shown of a guest is of its own machine run
-- alone (`IsTranscript`).
pub record IsSimulation (whole numbered : Bool) (text : List ℕ) (known known' : Option (List ℕ)) : Type 0 where
  pub script : ScriptCode
  pub reads : script_of text ≡ Ok (script_view script)
  pub profile : Profile
  pub said : IsProfileOf script.header.profile profile
  pub guests : List NewGuest
  pub profiles : All (λ g. g.profile ≡ profile) guests
  pub numbers : map numbers_of guests ≡ map line_numbers script.header.guests.items
  pub within : AreWithinLimits (config_of script.header) script.header.slots guests
  pub admitted : AreAdmitted (config_of script.header) script.header.slots guests
  pub told : IsOver script.header.failure whole numbered (config_of script.header) script.header.seed script.header.slots guests (course_of (length guests) (script_view script).blocks) known known'
