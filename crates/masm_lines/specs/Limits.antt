-- Limits of the language.
use Rattle.std.specs.Prelude.{ℕ}

-- a list or a text in quotes is at most so many characters long
abbrev pub longest : ℕ
longest = 65536
