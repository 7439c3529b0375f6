-- A line and its words.
use Rattle.std.specs.Prelude.{◌≢◌, ℕ, Bool, ◌==◌, List, [], ◌∷◌, Option, Some, None}
use Rattle.std.specs.List.{slice_split, AllByRecursion}

-- the byte that parts words
abbrev pub blank : ℕ
blank = 0x20

abbrev pub is_blank : ℕ → Bool
is_blank c = c == blank

abbrev pub HasNoBlank : List ℕ → Type 0
HasNoBlank word = AllByRecursion (λ c. c ≢ blank) word

-- the words of a line, with exactly one blank between them
abbrev pub words_of : List ℕ → List (List ℕ)
words_of line = slice_split is_blank line

-- the words of what is behind a blank, if there is a blank
abbrev pub words_behind : Option (List ℕ) → List (List ℕ)
words_behind None = []
words_behind (Some rest) = words_of rest

-- the words, if they are at most three
pub data Words : Type 0 where
  One : List ℕ → Words
  Two : List ℕ → List ℕ → Words
  Three : List ℕ → List ℕ → List ℕ → Words
  More : Words

abbrev pub first_words : List (List ℕ) → Words
first_words (a ∷ []) = One a
first_words (a ∷ b ∷ []) = Two a b
first_words (a ∷ b ∷ c ∷ []) = Three a b c
first_words _ = More
