-- What is shown of bytes that may be any.
use Rattle.std.specs.Prelude.{ℕ, ◌+◌, ◌/◌, ◌%◌, ◌≤◌, ◌<◌, ◌&&◌, nat_le, nat_lt, if◌then◌else◌, List, [], ◌∷◌, ◌++◌, replicate}
use Rattle.std.specs.List.{flat_map}

-- a blank, or a character of ASCII that is drawn
abbrev pub IsPrintable : ℕ → Type 0
IsPrintable byte = (0x20 ≤ byte) × (byte < 0x7f)

-- the last digit of a number in base 16
abbrev pub digit : ℕ → ℕ
digit n = if nat_lt (n % 16) 10 then 0x30 + n % 16 else 0x57 + n % 16

-- a byte: itself where it is printable, else a backslash, x and its two digits
abbrev pub shown_byte : ℕ → List ℕ
shown_byte byte =
    if nat_le 0x20 byte && nat_lt byte 0x7f then byte ∷ [] else 0x5c ∷ 0x78 ∷ digit (byte / 16) ∷ digit (byte % 16) ∷ []

abbrev pub shown : List ℕ → List ℕ
shown bytes = flat_map shown_byte bytes

-- a caret behind so many blanks
abbrev pub caret_behind : ℕ → List ℕ
caret_behind blanks = replicate blanks 0x20 ++ 0x5e ∷ []
