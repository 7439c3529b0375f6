-- How a line is shown with a caret under one of its words.
use Rattle.std.specs.Prelude.{ℕ, ◌-◌, ◌==◌, nat_lt, min, if◌then◌else◌, List, [], ◌∷◌, ◌++◌, length, map, take, drop}
use Rattle.diagnosis.specs.Printable.{shown, caret_behind}

-- three points
abbrev pub dots : List ℕ
dots = 0x2e ∷ 0x2e ∷ 0x2e ∷ []

-- a tab is shown as a blank
abbrev pub without_tab : ℕ → ℕ
without_tab byte = if byte == 9 then 0x20 else byte

-- the first byte that is shown of a line of some size: at most 72 are shown, and up to 36 stand before the column
abbrev pub first_shown : ℕ → ℕ → ℕ
first_shown size column = min (column - 36) (size - 72)

abbrev pub dots_before : ℕ → List ℕ
dots_before first = if nat_lt 0 first then dots else []

abbrev pub dots_behind : ℕ → List ℕ
dots_behind size = if nat_lt 72 size then dots else []

-- the bytes of a line from one on
abbrev pub excerpt_text : List ℕ → ℕ → List ℕ
excerpt_text line first =
    let rest = drop first line in
    (dots_before first ++ map without_tab (take (min (length rest) 72) rest)) ++ dots_behind (length rest)

abbrev pub text_before : List ℕ → ℕ → ℕ → List ℕ
text_before line first column = dots_before first ++ map without_tab (take (column - first) (drop first line))

abbrev pub excerpt_line : List ℕ → ℕ → List ℕ
excerpt_line line column = shown (excerpt_text line (first_shown (length line) column))

-- a caret behind as many blanks as characters are shown
abbrev pub caret_under : List ℕ → List ℕ
caret_under before = caret_behind (length (shown before))

-- under the byte of the column
abbrev pub excerpt_caret : List ℕ → ℕ → List ℕ
excerpt_caret line column = caret_under (text_before line (first_shown (length line) column) column)
