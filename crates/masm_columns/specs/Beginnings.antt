-- Beginnings of lines that can be gone on with.
use Rattle.std.specs.Prelude.{ℕ, Bool, List, [], ◌∷◌, ◌++◌, codes, is_ok}
use Rattle.std.specs.List.{list_any}
use Rattle.masm_lines.specs.Grammar.{line_of}

abbrev pub is_line : List ℕ → Bool
is_line text = is_ok (line_of text)

-- operands that can follow others, as each form of operand is behind each: none, a register, a number, an offset with its base, or two
abbrev pub followers : List (List ℕ)
followers = [] ∷ codes ",$0" ∷ codes ",0" ∷ codes ",0($0)" ∷ codes ",$0,$0" ∷ codes ",$0,0" ∷ []

-- with some of them behind it the text is a line
unfoldable pub goes_on : List ℕ → Bool
goes_on beginning = list_any (λ more. is_line (beginning ++ more)) followers
