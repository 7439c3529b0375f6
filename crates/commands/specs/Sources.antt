-- Sources of the assembler in files.
use Rattle.std.specs.Prelude.{ℕ, List}
use Rattle.std.specs.Str.Lossy.{utf8_lossy}

-- the text of a source file: each sequence of bytes that is no UTF-8 stands as U+FFFD
abbrev pub source_text : List ℕ → List ℕ
source_text = utf8_lossy
