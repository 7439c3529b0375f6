-- The events that the blocks of a script come to, one after another.
use Rattle.std.specs.Prelude.{ℕ, List, [], ◌∷◌, map}
use Rattle.std.specs.List.{flat_map, range_with_len}
use Rattle.script.specs.Events.{Event, Step, Run}
use Rattle.script.specs.Actions.{Action, Single, StepEach, RunEach, ActionLine, Block}

-- an event, and the number of the line that it comes from
pub record LineEvent : Type 0 where
  pub line : ℕ
  pub event : Event

-- an event of each of so many guests, in the order of their numbers
abbrev pub of_each : ℕ → (ℕ → Event) → List Event
of_each guests f = map f (range_with_len 0 guests)

abbrev pub action_events : ℕ → Action → List Event
action_events guests (Single e) = e ∷ []
action_events guests (StepEach count) = of_each guests (λ g. Step g count)
action_events guests (RunEach count) = of_each guests (λ g. Run g count)

abbrev pub line_events : ℕ → ActionLine → List LineEvent
line_events guests line = map (λ e. record { line = line.number; event = e }) (action_events guests line.action)

abbrev pub lines_events : ℕ → List ActionLine → List LineEvent
lines_events guests lines = flat_map (line_events guests) lines

-- what the lines of a block come to, so many times
abbrev pub block_events : ℕ → Block → List LineEvent
block_events guests block = flat_map (λ turn. lines_events guests block.lines) (range_with_len 0 block.times)

-- what blocks come to, where there are so many guests
abbrev pub course_of : ℕ → List Block → List LineEvent
course_of guests blocks = flat_map (block_events guests) blocks
