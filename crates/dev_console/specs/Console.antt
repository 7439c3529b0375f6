-- The guest's console: bytes that wait to be read by the guest, and bytes that it wrote.
use Rattle.std.specs.Prelude.{ℕ, ◌+◌, Bool, true, false, cond, nat_lt, if◌then◌else◌, List, [], ◌∷◌, ◌++◌, length, drop}

pub record ConsoleIs : Type 0 where
  -- the bytes that wait to be read by the guest, the oldest first
  pub input : List ℕ
  -- the bytes that the guest wrote and that were not drained, the oldest first
  pub output : List ℕ

-- how many bytes of input may wait
abbrev pub input_room : ℕ
input_room = 256

-- how many bytes of output may wait
abbrev pub output_room : ℕ
output_room = 4096

abbrev pub silent_console : ConsoleIs
silent_console = record { input = []; output = [] }

abbrev pub has_input : List ℕ → Bool
has_input [] = false
has_input (byte ∷ later) = true

-- the next byte of the input, and 32 ones where there is none
abbrev pub next_input : List ℕ → ℕ
next_input [] = 0xffffffff
next_input (byte ∷ later) = byte

-- the status word: bit 0 where input waits, bit 1 where the output has room
abbrev pub console_status : ConsoleIs → ℕ
console_status c = cond (has_input c.input) 1 0 + cond (nat_lt (length c.output) output_room) 2 0

-- without its next byte of input
abbrev pub input_taken : ConsoleIs → ConsoleIs
input_taken c = record c { input = drop 1 c.input }

-- with a byte more of output; the byte is lost where the output has no room
abbrev pub output_written : ℕ → ConsoleIs → ConsoleIs
output_written byte c = if nat_lt (length c.output) output_room then record c { output = c.output ++ byte ∷ [] } else c

-- with a byte more of input
abbrev pub input_fed : ℕ → ConsoleIs → ConsoleIs
input_fed byte c = record c { input = c.input ++ byte ∷ [] }

-- without its output
abbrev pub output_drained : ConsoleIs → ConsoleIs
output_drained c = record c { output = [] }
