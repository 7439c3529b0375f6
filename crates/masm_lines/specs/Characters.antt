-- The characters of the assembler's language, as bytes of ASCII.
use Rattle.std.specs.Prelude.{ℕ, Bool, ◌==◌, ◌||◌}
use Rattle.std.specs.Char.{is_ascii_alphabetic, is_ascii_alphanumeric}

-- a blank or a tab
abbrev pub is_blank : ℕ → Bool
is_blank c = c == 32 || c == 9

-- `#`
abbrev pub begins_comment : ℕ → Bool
begins_comment c = c == 35

-- `,`
abbrev pub is_comma : ℕ → Bool
is_comma c = c == 44

-- `(`
abbrev pub is_open : ℕ → Bool
is_open c = c == 40

-- `"`
abbrev pub is_quote : ℕ → Bool
is_quote c = c == 34

-- a backslash
abbrev pub is_backslash : ℕ → Bool
is_backslash c = c == 92

-- a letter or `_`
abbrev pub starts_name : ℕ → Bool
starts_name c = is_ascii_alphabetic c || c == 95

-- a letter, a digit or `_`
abbrev pub continues_name : ℕ → Bool
continues_name c = is_ascii_alphanumeric c || c == 95
