-- How the program ends.
use Rattle.std.specs.Prelude.{◌≡◌, ◌++◌, ℕ, false, All, List, Option, String, codes, nat_eq, string_bytes}
use Rattle.std.specs.Str.{bytes_eq}
use Rattle.std.specs.Io.KnownBytes.{Appends}
use Rattle.std.specs.declared.alloc.Global.{Global}
use Rattle.std.specs.List.{starts_with}
use Rattle.command_line.specs.declared.program.Status.{Status}
use Rattle.command_line.specs.declared.program.Status.TheVariants.{Done, Refused, Usage, Stopped}

-- the status as the system sees it
abbrev pub code_of : Status → ℕ
code_of Done = 0
code_of Refused = 1
code_of Usage = 2
code_of Stopped = 3

-- no word of a command line begins with `--until`
abbrev pub HasNoUntil : List (String Global) → Type 0
HasNoUntil words = All (λ (word : String Global). starts_with nat_eq (string_bytes word) (codes "--until") ≡ false) words

-- no word of a command line is `sim`
abbrev pub HasNoSim : List (String Global) → Type 0
HasNoSim words = All (λ (word : String Global). bytes_eq (string_bytes word) (codes "sim") ≡ false) words

-- no word of a command line is `run`
abbrev pub HasNoRun : List (String Global) → Type 0
HasNoRun words = All (λ (word : String Global). bytes_eq (string_bytes word) (codes "run") ≡ false) words

-- no word of a command line is `fuzz`
abbrev pub HasNoFuzz : List (String Global) → Type 0
HasNoFuzz words = All (λ (word : String Global). bytes_eq (string_bytes word) (codes "fuzz") ≡ false) words

-- what is said of a standard output that takes no more
abbrev pub unprinted_text : List ℕ
unprinted_text = codes "vmhost: output\n  standard output takes no more, as where its disk is full; what stands there may be cut off\n"

-- known bytes grow by the front of a text, which may be all of it, or nothing
pub record AppendsFront (known known' : Option (List ℕ)) (text : List ℕ) : Type 0 where
  pub front : List ℕ
  pub rest : List ℕ
  pub whole : text ≡ front ++ rest
  pub written : Appends known known' front
