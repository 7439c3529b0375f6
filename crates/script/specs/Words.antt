-- A line and its words.
use Rattle.std.specs.Prelude.{ℕ, Bool, ◌==◌, ◌||◌, List, [], ◌∷◌, length, slice_index, Option, Some, None}
use Rattle.std.specs.List.{slice_split}

-- an empty line and one that begins with `#` say nothing
abbrev pub is_skipped : List ℕ → Bool
is_skipped line = length line == 0 || slice_index line 0 == 35

-- the words of a line, with exactly one blank between them
abbrev pub words_of : List ℕ → List (List ℕ)
words_of line = slice_split (λ c. c == 32) line

-- the words behind a line's first word: no line has more than four
pub data Arguments : Type 0 where
  Zero : Arguments
  One : List ℕ → Arguments
  Two : List ℕ → List ℕ → Arguments
  Three : List ℕ → List ℕ → List ℕ → Arguments
  Four : List ℕ → List ℕ → List ℕ → List ℕ → Arguments

-- the first word, and those behind it
unfoldable pub parts_of : List (List ℕ) → Option (List ℕ × Arguments)
parts_of (name ∷ []) = Some (name, Zero)
parts_of (name ∷ a ∷ []) = Some (name, One a)
parts_of (name ∷ a ∷ b ∷ []) = Some (name, Two a b)
parts_of (name ∷ a ∷ b ∷ c ∷ []) = Some (name, Three a b c)
parts_of (name ∷ a ∷ b ∷ c ∷ d ∷ []) = Some (name, Four a b c d)
parts_of _ = None
