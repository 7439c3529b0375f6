-- When an answer of the code is the definition's.
use Rattle.std.specs.Prelude.{◌≡◌, ℕ, Option, Some, None, Result, Ok, Err}
use Rattle.script.specs.declared.error.ScriptError.{ScriptError}
use Rattle.script.specs.declared.error.ScriptError.TheVariants as script
use Rattle.script.specs.declared.error.LineError.{LineError}
use Rattle.script.specs.declared.error.LineError.TheVariants as line

-- what the code answers is what the definition gives, unless memory was refused
abbrev pub Answers : {A B : Type 0} → (B → A) → Result B LineError → Option A → Type 0
Answers view (Ok b) found = found ≡ Some (view b)
Answers view (Err line.Refused) found = found ≡ None
Answers view (Err line.Memory) found = Unit {0}

-- the same of a whole text, whose error is a line
abbrev pub Gives : {A B : Type 0} → (B → A) → Result B ScriptError → Result A ℕ → Type 0
Gives view (Ok b) found = found ≡ Ok (view b)
Gives view (Err (script.Line line)) found = found ≡ Err line
Gives view (Err script.Memory) found = Unit {0}

-- the line of an error that isn't want of memory
abbrev pub line_in : ScriptError → Option ℕ
line_in (script.Line line) = Some line
line_in script.Memory = None
