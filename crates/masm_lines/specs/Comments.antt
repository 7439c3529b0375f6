-- Where the comment of a line begins: at the first `#` that is in no text in quotes.
use Rattle.std.specs.Prelude.{ℕ, ◌+◌, Bool, false, ◌==◌, if◌then◌else◌, List, [], ◌∷◌}
use Rattle.masm_lines.specs.Characters.{begins_comment, is_quote, is_backslash}
use Rattle.masm_lines.specs.declared.comment.Place.{Place}
use Rattle.masm_lines.specs.declared.comment.Place.TheVariants.{Plain, Quoted, Escaped}

-- where the character behind this one stands: a quote begins a text and ends it, but one behind a backslash doesn't
abbrev pub place_behind : Place → ℕ → Place
place_behind Plain c = if is_quote c then Quoted else Plain
place_behind Quoted c = if is_backslash c then Escaped else if is_quote c then Plain else Quoted
place_behind Escaped c = Quoted

-- a comment begins with this character
abbrev pub is_comment_at : Place → ℕ → Bool
is_comment_at Plain c = begins_comment c
is_comment_at Quoted c = false
is_comment_at Escaped c = false

-- how many characters stand before the comment
abbrev pub uncommented : Place → List ℕ → ℕ
uncommented place [] = 0
uncommented place (c ∷ cs) = if is_comment_at place c then 0 else uncommented (place_behind place c) cs + 1
