-- What a line says.
use Rattle.std.specs.Prelude.{ℕ, List, Option, Some, None, option_map}
use Rattle.script.specs.Steps.{◌>>=◌}
use Rattle.script.specs.Words.{Arguments, Zero, One, words_of, parts_of}
use Rattle.script.specs.Numbers.{number_of}
use Rattle.script.specs.Names.{header_name_of, event_name_of}
use Rattle.script.specs.Headers.{Part, part_of}
use Rattle.script.specs.Actions.{Action, action_of}
use Rattle.script.specs.declared.name.HeaderName.{HeaderName}
use Rattle.script.specs.declared.name.EventName.{EventName}
use Rattle.script.specs.declared.name.EventName.TheVariants as name

pub data Statement : Type 0 where
  OfHeader : Part → Statement
  OfAction : Action → Statement
  -- the lines up to the `end` are done so many times
  OfRepeat : ℕ → Statement
  OfEnd : Statement

abbrev pub repeat_of : Arguments → Option Statement
repeat_of (One times) = option_map OfRepeat (number_of times)
repeat_of _ = None

abbrev pub end_of : Arguments → Option Statement
end_of Zero = Some OfEnd
end_of _ = None

-- a line behind the header, by its first word and those behind it
unfoldable pub later_statement : EventName → Arguments → Option Statement
later_statement name.Repeat arguments = repeat_of arguments
later_statement name.End arguments = end_of arguments
later_statement event arguments = option_map OfAction (action_of event arguments)

unfoldable pub event_statement : List ℕ → Arguments → Option Statement
event_statement name arguments = event_name_of name >>= λ event. later_statement event arguments

-- a line of the header where its first word is one of the header's, else one behind it
abbrev pub header_or_event : Option HeaderName → List ℕ → Arguments → Option Statement
header_or_event (Some header) name arguments = option_map OfHeader (part_of header arguments)
header_or_event None name arguments = event_statement name arguments

unfoldable pub statement_in : List ℕ → Arguments → Option Statement
statement_in name arguments = header_or_event (header_name_of name) name arguments

unfoldable pub statement_of : List ℕ → Option Statement
statement_of line = parts_of (words_of line) >>= λ parts. statement_in parts.0 parts.1
