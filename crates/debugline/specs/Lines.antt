-- The lines of a stream of bytes.
use Rattle.std.specs.Prelude.{◌≡◌, ◌≢◌, ℕ, ◌≤◌, nat_le, nat_lt, List, [], ◌∷◌, ◌++◌, length, map, if◌then◌else◌}
use Rattle.std.specs.List.{AllByRecursion, flat_map}

-- a line: its bytes, or that they are too many
pub data Line : Type 0 where
  Text : List ℕ → Line
  Long : Line

-- how many bytes a line has at most
abbrev pub most_bytes : ℕ
most_bytes = 4096

-- the byte that ends a line: a line feed
abbrev pub end : ℕ
end = 0x0A

-- some bytes, none of which ends a line, as a line
abbrev pub line_of : List ℕ → Line
line_of bytes = if nat_le (length bytes) most_bytes then Text bytes else Long

-- no byte ends a line
abbrev pub HasNoEnd : List ℕ → Type 0
HasNoEnd bytes = AllByRecursion (λ b. b ≢ end) bytes

-- bytes as they come on the stream: with the byte that ends them
abbrev pub ended : List ℕ → List ℕ
ended bytes = bytes ++ end ∷ []

-- the stream is these bytes one after another, each with its end, and then others without one
pub record Splits (stream : List ℕ) (whole : List (List ℕ)) (last : List ℕ) : Type 0 where
  pub stream_is : stream ≡ flat_map ended whole ++ last
  pub no_end_within : AllByRecursion HasNoEnd whole
  pub no_end_behind : HasNoEnd last

-- The stream is these lines in order, each with the byte 0x0A behind it, and then a rest. No line and no rest has that byte, and
-- one of more than 4,096 bytes stands as Long.
pub record IsLines (stream : List ℕ) (lines : List Line) (rest : Line) : Type 0 where
  pub whole : List (List ℕ)
  pub last : List ℕ
  pub splits : Splits stream whole last
  pub lines_are : lines ≡ map line_of whole
  pub rest_is : rest ≡ line_of last

-- what is left of a stream behind its lines
abbrev pub IsRest : Line → Type 0
IsRest (Text bytes) = (length bytes ≤ most_bytes) × HasNoEnd bytes
IsRest Long = Unit {0}

-- a line with a byte more
abbrev pub with_byte : Line → ℕ → Line
with_byte (Text bytes) byte = if nat_lt (length bytes) most_bytes then Text (bytes ++ byte ∷ []) else Long
with_byte Long byte = Long
