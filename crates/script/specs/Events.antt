-- The events of a script.
use Rattle.std.specs.Prelude.{ℕ, List, Option, Some, None, option_map}
use Rattle.script.specs.Steps.{◌>>=◌}
use Rattle.script.specs.Numbers.{number_of, word_of, bytes_of}
use Rattle.script.specs.Words.{Arguments, Zero, One, Two, Three, Four}
use Rattle.script.specs.declared.name.EventName.{EventName}
use Rattle.script.specs.declared.name.EventName.TheVariants as name

-- a guest is named by its number
pub data Event : Type 0 where
  -- a guest, and how many steps
  Step : ℕ → ℕ → Event
  Run : ℕ → ℕ → Event
  -- a guest, and bytes for its console
  In : ℕ → List ℕ → Event
  Drain : ℕ → Event
  -- a guest, and how many pages its balloon is to have
  Target : ℕ → ℕ → Event
  -- a guest, a register by its number, and what is written
  Poke : ℕ → ℕ → ℕ → Event
  -- a guest, a virtual address, and what is written
  Write : ℕ → ℕ → List ℕ → Event
  -- a guest, a virtual address, and how many bytes
  Probe : ℕ → ℕ → ℕ → Event
  Fault : ℕ → Event
  -- a guest and its page
  Scan : ℕ → ℕ → Event
  Evict : ℕ → ℕ → Event
  Sample : Event
  Level : Event
  Audit : Event
  -- of a guest
  AuditGuest : ℕ → Event
  Dump : ℕ → Event
  Stats : ℕ → Event
  -- a slot and its byte
  Damage : ℕ → ℕ → Event

abbrev pub both : {A B C : Type 0} → (A → B → C) → Option A → Option B → Option C
both f a b = a >>= λ x. b >>= λ y. Some (f x y)

abbrev pub all_three : {A B C D : Type 0} → (A → B → C → D) → Option A → Option B → Option C → Option D
all_three f a b c = a >>= λ x. b >>= λ y. c >>= λ z. Some (f x y z)

-- the events whose words are all numbers
unfoldable pub event_of_numbers : EventName → Arguments → Option Event
event_of_numbers name.Step (Two guest count) = both Step (number_of guest) (number_of count)
event_of_numbers name.Run (Two guest count) = both Run (number_of guest) (number_of count)
event_of_numbers name.Drain (One guest) = option_map Drain (number_of guest)
event_of_numbers name.Target (Two guest pages) = both Target (number_of guest) (number_of pages)
event_of_numbers name.Poke (Three guest register value) = all_three Poke (number_of guest) (number_of register) (word_of value)
event_of_numbers name.Probe (Three guest address count) = all_three Probe (number_of guest) (word_of address) (number_of count)
event_of_numbers name.Fault (One guest) = option_map Fault (number_of guest)
event_of_numbers name.Scan (Two guest page) = both Scan (number_of guest) (number_of page)
event_of_numbers name.Evict (Two guest page) = both Evict (number_of guest) (number_of page)
event_of_numbers name.Sample Zero = Some Sample
event_of_numbers name.Level Zero = Some Level
event_of_numbers name.Audit Zero = Some Audit
event_of_numbers name.Audit (One guest) = option_map AuditGuest (number_of guest)
event_of_numbers name.Dump (One guest) = option_map Dump (number_of guest)
event_of_numbers name.Stats (One guest) = option_map Stats (number_of guest)
event_of_numbers name.Damage (Two slot byte) = both Damage (number_of slot) (number_of byte)
event_of_numbers _ _ = None

-- bytes for a console
unfoldable pub input_of : Arguments → Option Event
input_of (Two guest digits) = both In (number_of guest) (bytes_of digits)
input_of _ = None

-- bytes for a memory
unfoldable pub write_of : Arguments → Option Event
write_of (Three guest address digits) = all_three Write (number_of guest) (word_of address) (bytes_of digits)
write_of _ = None

-- an event, by its first word and those behind it
unfoldable pub event_of : EventName → Arguments → Option Event
event_of name.In arguments = input_of arguments
event_of name.Write arguments = write_of arguments
event_of event arguments = event_of_numbers event arguments
