-- What the lines behind the header say is done.
use Rattle.std.specs.Prelude.{ℕ, Bool, if◌then◌else◌, List, codes, Option, Some, None, option_map}
use Rattle.std.specs.Str.{bytes_eq}
use Rattle.script.specs.Numbers.{number_of}
use Rattle.script.specs.Words.{Arguments, Two}
use Rattle.script.specs.Events.{Event, event_of}
use Rattle.script.specs.declared.name.EventName.{EventName}
use Rattle.script.specs.declared.name.EventName.TheVariants as name

pub data Action : Type 0 where
  -- an event
  Single : Event → Action
  -- so many steps of each guest, one guest after another
  StepEach : ℕ → Action
  RunEach : ℕ → Action

-- a line, by its number, and what it says is done
pub record ActionLine : Type 0 where
  pub number : ℕ
  pub action : Action

-- lines that are done one after another, all of them so many times
pub record Block : Type 0 where
  pub times : ℕ
  pub lines : List ActionLine

-- `*` stands for each guest
abbrev pub for_each : (ℕ → Action) → List ℕ → List ℕ → Option Action
for_each f who count = if bytes_eq (codes "*") who then option_map f (number_of count) else None

unfoldable pub each_of : EventName → Arguments → Option Action
each_of name.Step (Two who count) = for_each StepEach who count
each_of name.Run (Two who count) = for_each RunEach who count
each_of _ _ = None

-- what is done, or else an event
abbrev pub or_event : Option Action → Option Event → Option Action
or_event (Some action) event = Some action
or_event None event = option_map Single event

-- what is done, by a line's first word and those behind it
unfoldable pub action_of : EventName → Arguments → Option Action
action_of name arguments = or_event (each_of name arguments) (event_of name arguments)
