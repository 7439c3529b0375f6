-- The sets of characters by which the code goes over a text.
use Rattle.std.specs.Prelude.{ℕ, Bool, not, ◌==◌}
use Rattle.std.specs.Char.{is_ascii}
use Rattle.masm_lines.specs.Characters.{is_blank, continues_name}
use Rattle.masm_lines.specs.declared.character.Class.{Class}
use Rattle.masm_lines.specs.declared.character.Class.TheVariants.{Blank, NoBlank, Name, Not, Ascii}

abbrev pub class_test : Class → ℕ → Bool
class_test Blank = is_blank
class_test NoBlank = λ c. not (is_blank c)
class_test Name = continues_name
class_test (Not other) = λ c. not (c == other)
class_test Ascii = is_ascii
