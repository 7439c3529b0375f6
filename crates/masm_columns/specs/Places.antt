-- Places in a line, in bytes from its first one, which is 0.
use Rattle.std.specs.Prelude.{ℕ, ◌+◌, Bool, false, not, ◌==◌, nat_lt, min, if◌then◌else◌, List, length, take, drop, Result, Ok, Err, is_some}
use Rattle.std.specs.List.{prefix_len}
use Rattle.std.specs.Char.{is_ascii}
use Rattle.masm_lines.specs.Characters.{is_blank}
use Rattle.masm_lines.specs.Grammar.{Line, line_of}
use Rattle.masm_lines.specs.declared.fault.AsmFault.{AsmFault}
use Rattle.masm_columns.specs.declared.place.Class.{Class}
use Rattle.masm_columns.specs.declared.place.Class.TheVariants.{Blank, NoBlank, Not, Ascii}

abbrev pub has : Class → ℕ → Bool
has Blank c = is_blank c
has NoBlank c = not (is_blank c)
has (Not other) c = not (c == other)
has Ascii c = is_ascii c

-- the first place, from one on, of a character that is not in a set
abbrev pub behind : List ℕ → ℕ → Class → ℕ
behind line from class = from + prefix_len (has class) (drop from line)

abbrev pub label_in : Result Line AsmFault → Bool
label_in (Ok line) = is_some line.label
label_in (Err fault) = false

-- a text is a line with a label
abbrev pub has_label : List ℕ → Bool
has_label text = label_in (line_of text)

-- how much of a line its label is, up to the first colon
abbrev pub label_len : List ℕ → ℕ
label_len line =
    let size = min (behind line 0 (Not 58) + 1) (length line) in
    if has_label (take size line) then size else 0

-- of the mnemonic or directive
abbrev pub statement : List ℕ → ℕ
statement line = behind line (label_len line) Blank

-- a line up to its first `#`, or all of it where a quote stands before that
abbrev pub uncommented : List ℕ → List ℕ
uncommented line = if nat_lt (behind line 0 (Not 34)) (behind line 0 (Not 35)) then line else take (behind line 0 (Not 35)) line
