-- The lines that a debugger sends.
use Rattle.std.specs.Prelude.{◌≡◌, ℕ, ◌&&◌, nat_lt, nat_le, if◌then◌else◌, List, [], ◌∷◌, length, codes, Option, Some, None, option_map}
use Rattle.std.specs.Str.{bytes_eq}
use Rattle.line_words.specs.Bytes.{bytes_of}
use Rattle.line_words.specs.Numbers.{hexadecimal_of}
use Rattle.line_words.specs.Words.{Words, One, Two, Three, More, words_of, first_words}
use Rattle.debugline.specs.Lines.{Line, Text, Long}
use Rattle.debugline.specs.Steps.{◌>>=◌, both}

-- a register is named by its number
pub data Command : Type 0 where
  Regs : Command
  Reg : ℕ → Command
  -- a register, and the word that it is to have
  Set : ℕ → ℕ → Command
  -- an address, and how many bytes
  Read : ℕ → ℕ → Command
  -- an address, and the bytes that are to stand there
  Write : ℕ → List ℕ → Command
  Cont : Command
  Step : Command
  -- an address
  Break : ℕ → Command
  Clear : ℕ → Command
  Detach : Command
  End : Command

-- a register, 0 to 37
unfoldable pub register_of : List ℕ → Option ℕ
register_of word = hexadecimal_of word >>= λ number. if nat_lt number 38 then Some number else None

-- how many bytes are read, 1 to 1,024
unfoldable pub length_of : List ℕ → Option ℕ
length_of word = hexadecimal_of word >>= λ count. if nat_le 1 count && nat_le count 1024 then Some count else None

-- the bytes that are written, 1 to 1,024, two digits each
unfoldable pub data_of : List ℕ → Option (List ℕ)
data_of word = if nat_le (length word) 2048 then bytes_of word else None

unfoldable pub set_of : List ℕ → List ℕ → Option Command
set_of register value = both Set (register_of register) (hexadecimal_of value)

unfoldable pub read_of : List ℕ → List ℕ → Option Command
read_of address count = both Read (hexadecimal_of address) (length_of count)

unfoldable pub write_of : List ℕ → List ℕ → Option Command
write_of address digits = both Write (hexadecimal_of address) (data_of digits)

-- what a table has in the row of a name
abbrev pub row_of : List (List ℕ × Option Command) → List ℕ → Option Command
row_of [] name = None
row_of (row ∷ rows) name = if bytes_eq row.0 name then row.1 else row_of rows name

-- the commands of one word
abbrev pub one_rows : List (List ℕ × Option Command)
one_rows = (codes "regs", Some Regs) ∷ (codes "cont", Some Cont) ∷ (codes "step", Some Step) ∷ (codes "detach", Some Detach) ∷ (codes "end", Some End) ∷ []

-- the commands of two words, of which this is the second
abbrev pub two_rows : List ℕ → List (List ℕ × Option Command)
two_rows a = (codes "reg", option_map Reg (register_of a)) ∷ (codes "break", option_map Break (hexadecimal_of a)) ∷ (codes "clear", option_map Clear (hexadecimal_of a)) ∷ []

-- the commands of three words, of which these are the second and the third
abbrev pub three_rows : List ℕ → List ℕ → List (List ℕ × Option Command)
three_rows a b = (codes "set", set_of a b) ∷ (codes "read", read_of a b) ∷ (codes "write", write_of a b) ∷ []

unfoldable pub command_of_one : List ℕ → Option Command
command_of_one name = row_of one_rows name

unfoldable pub command_of_two : List ℕ → List ℕ → Option Command
command_of_two name a = row_of (two_rows a) name

unfoldable pub command_of_three : List ℕ → List ℕ → List ℕ → Option Command
command_of_three name a b = row_of (three_rows a b) name

abbrev pub command_in : Words → Option Command
command_in (One name) = command_of_one name
command_in (Two name a) = command_of_two name a
command_in (Three name a b) = command_of_three name a b
command_in More = None

-- the command that a line is, or none
abbrev pub command_of : Line → Option Command
command_of (Text text) = command_in (first_words (words_of text))
command_of Long = None

-- it is a write
abbrev pub IsWrite : Option Command → Type 0
IsWrite command = (address : ℕ) × (bytes : List ℕ) × (command ≡ Some (Write address bytes))
