-- Which words of memory were reached in all runs, and in which first.
use Rattle.std.specs.Prelude.{ℕ, List, [], ◌∷◌, ◌++◌, codes, if◌then◌else◌}
use Rattle.masm.specs.Disassembly.{hex_word}
use Rattle.runs.specs.Coverage.{CoverageIs, is_more, with_word}
use Rattle.fuzz_command.specs.Lines.{word_address}

-- the words that were reached, and the lines that tell them
pub record FirstsAre : Type 0 where
  pub coverage : CoverageIs
  pub text : List ℕ

-- the line of a word that was reached first in the run of an input of this name
abbrev pub first_text : List ℕ → ℕ → List ℕ
first_text name word = hex_word (word_address word) ++ codes " " ++ name ++ codes "\n"

-- a word is reached in the run of an input of this name
abbrev pub with_first : List ℕ → ℕ → FirstsAre → FirstsAre
with_first name word f =
    if is_more word f.coverage then record { coverage = with_word word f.coverage; text = f.text ++ first_text name word } else f

-- words are, one after another
abbrev pub with_firsts : List ℕ → List ℕ → FirstsAre → FirstsAre
with_firsts name [] f = f
with_firsts name (word ∷ words) f = with_firsts name words (with_first name word f)
