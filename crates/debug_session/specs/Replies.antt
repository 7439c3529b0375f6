-- What is sent back to a debugger.
use Rattle.std.specs.Prelude.{◌≡◌, ℕ, ◌+◌, Option, Some, None, List, [], ◌∷◌, ◌++◌, codes, slice_index}
use Rattle.hex.specs.Hex.{encode_lower}
use Rattle.debugline.specs.Lines.{ended}
use Rattle.debugline.specs.Replies.{words_text, error_text}
use Rattle.host.specs.declared.requests.DebugError.{DebugError}
use Rattle.host.specs.declared.requests.DebugError.TheVariants.{NoPlace, NoBreakpoint, Stop}
use Rattle.host.specs.declared.requests.Reply.{Reply}
use Rattle.host.specs.declared.requests.Reply.TheVariants.{Registers, Bytes, Done}
use Rattle.host.specs.declared.stops.Ran.{Ran}
use Rattle.host.specs.declared.stops.Ran.TheVariants as ran
use Rattle.host.specs.Stops.{stop_number}
use Rattle.debug_session.specs.declared.state.State.{State}
use Rattle.debug_session.specs.declared.state.State.TheVariants.{Ready, Running, Detached, Ended}

-- some bytes were sent behind others
pub record Adds (old new : List ℕ) (P : List ℕ → Type 0) : Type 0 where
  pub text : List ℕ
  pub behind : new ≡ old ++ text
  pub said : P text

-- the number of the error by which a refusal is told
abbrev pub error_number : DebugError → ℕ
error_number NoBreakpoint = 2
error_number NoPlace = 14
error_number (Stop stop) = 30 + stop_number stop

-- the words of one register, or of all
abbrev pub words_shown : Option ℕ → List ℕ → List ℕ
words_shown None words = words
words_shown (Some number) words = slice_index words number ∷ []

-- what is told where a request was done, of whose registers one or all are wanted
abbrev pub reply_bytes : Option ℕ → Reply → List ℕ
reply_bytes which (Registers words) = words_text (words_shown which words)
reply_bytes which (Bytes bytes) = encode_lower bytes.items
reply_bytes which Done = codes "ok"

-- what is sent where a slice of a `cont` has ended so; nothing where it goes on
abbrev pub said_to_run : Ran → List ℕ
said_to_run (ran.Ran k) = []
said_to_run (ran.Break k) = ended (codes "break")
said_to_run (ran.Held k) = ended (codes "held")
said_to_run (ran.Stopped k stop) = ended (error_text (30 + stop_number stop))

-- what the session does then
abbrev pub state_after : Ran → State
state_after (ran.Ran k) = Running
state_after (ran.Break k) = Ready
state_after (ran.Held k) = Ready
state_after (ran.Stopped k stop) = Ready

-- what is sent where a `step` has ended so
abbrev pub said_to_step : Ran → List ℕ
said_to_step (ran.Ran k) = ended (codes "break")
said_to_step (ran.Break k) = ended (codes "break")
said_to_step (ran.Held k) = ended (codes "held")
said_to_step (ran.Stopped k stop) = ended (error_text (30 + stop_number stop))

-- what is sent at the end of a connection
abbrev pub said_at_end : State → List ℕ
said_at_end Running = ended (codes "held")
said_at_end Ready = []
said_at_end Detached = []
said_at_end Ended = []
