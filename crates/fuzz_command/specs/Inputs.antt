-- Which inputs are run.
use Rattle.std.specs.Prelude.{◌≡◌, ℕ, ◌+◌, ◌<◌, nat_le, if◌then◌else◌, List, [], ◌∷◌, ◌++◌, length, map, decimal, Option, Some, None, IfSome, Result, Ok, Err}
use Rattle.std.specs.Io.BufRead.{first_piece, drop_through}
use Rattle.hex.specs.Hex.{decode_of}
use Rattle.hex.specs.declared.error.FromHexError.{FromHexError}
use Rattle.fuzz_command.specs.declared.order.InputFile.{InputFile}
use Rattle.fuzz_command.specs.Lines.{Trial}

-- ---- lines

-- bytes that a console takes before the first step: 256 at most
abbrev pub few_bytes : Result (List ℕ) FromHexError → Option (List ℕ)
few_bytes (Ok bytes) = if nat_le (length bytes) 256 then Some bytes else None
few_bytes (Err e) = None

-- the input that hexadecimal digits are, two a byte
abbrev pub input_of : List ℕ → Option (List ℕ)
input_of digits = few_bytes (decode_of digits)

-- the first line of a text: what is before its first line feed, or all of it
abbrev pub first_digits : List ℕ → List ℕ
first_digits text = first_piece 10 text

-- the first line of a text is this input, by the line's number
pub record IsFirstLine (number : ℕ) (text : List ℕ) (t : Trial) : Type 0 where
  pub some : 0 < length text
  pub input : input_of (first_digits text) ≡ Some t.input
  pub name : t.name ≡ decimal number

-- the next line of a text is this, and that is left behind it
pub record IsNext (text line : List ℕ) (left : Option (List ℕ)) : Type 0 where
  pub some : 0 < length text
  pub digits : line ≡ first_digits text
  pub behind : left ≡ Some (drop_through 10 text)

-- the first lines of a text, numbered from a number on, are these inputs, and the rest is behind them
abbrev pub AreFirstLines : ℕ → List ℕ → List Trial → List ℕ → Type 0
AreFirstLines number text [] rest = rest ≡ text
AreFirstLines number text (t ∷ ts) rest = IsFirstLine number text t × AreFirstLines (number + 1) (drop_through 10 text) ts rest

-- the first line of a text is no input
pub record IsNoLine (text : List ℕ) : Type 0 where
  pub some : 0 < length text
  pub input : input_of (first_digits text) ≡ None

-- these are the inputs of the first lines of a text, numbered from 1
pub record BeginLines (text : List ℕ) (trials : List Trial) : Type 0 where
  pub rest : List ℕ
  pub lines : AreFirstLines 1 text trials rest

-- behind them stands a line that is none, the line of this number
pub record BreakLines (text : List ℕ) (trials : List Trial) (line : ℕ) : Type 0 where
  pub rest : List ℕ
  pub lines : AreFirstLines 1 text trials rest
  pub refused : IsNoLine rest
  pub number : line ≡ length trials + 1

-- ---- files

abbrev pub name_of : InputFile → List ℕ
name_of file = file.name.now

-- these are the inputs of some files, by their names as they were given
abbrev pub AreFiles : List InputFile → List Trial → Type 0
AreFiles files trials = map (λ (t : Trial). t.name) trials ≡ map name_of files

-- they are those of the first of them
pub record BeginFiles (files : List InputFile) (trials : List Trial) : Type 0 where
  pub rest : List (List ℕ)
  pub names : map name_of files ≡ map (λ (t : Trial). t.name) trials ++ rest

-- ---- files, or where there are none the lines of what a reader has

-- these are all of the inputs
abbrev pub AreInputs : List InputFile → Option (List ℕ) → List Trial → Type 0
AreInputs [] had trials = IfSome had (λ text. AreFirstLines 1 text trials [])
AreInputs (file ∷ files) had trials = AreFiles (file ∷ files) trials

-- these are the first of them
abbrev pub BeginInputs : List InputFile → Option (List ℕ) → List Trial → Type 0
BeginInputs [] had trials = IfSome had (λ text. BeginLines text trials)
BeginInputs (file ∷ files) had trials = BeginFiles (file ∷ files) trials

-- these are the ones before the line of this number, which is no input
abbrev pub AreBefore : ℕ → Option (List ℕ) → List Trial → Type 0
AreBefore number had trials = IfSome had (λ text. BreakLines text trials number)
