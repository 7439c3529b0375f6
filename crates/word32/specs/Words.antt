-- Words of four bytes in a list of bytes, the lowest byte first (MIPS32 Architecture For Programmers, volume I,
-- little-endian byte ordering).
use Rattle.std.specs.Prelude.{ℕ, ◌+◌, List, ◌++◌, take, drop}
use Rattle.byteorder.specs.Endian.{little_number, little_bytes}

-- the bytes with those from place i on replaced by new ones
abbrev pub patched : List ℕ → ℕ → List ℕ → ℕ → List ℕ
patched bytes i new count = take i bytes ++ new ++ drop (i + count) bytes

-- the word at place i
abbrev pub word_in : List ℕ → ℕ → ℕ
word_in bytes i = little_number 4 (drop i bytes)

-- the bytes with a word at place i
abbrev pub with_word : List ℕ → ℕ → ℕ → List ℕ
with_word bytes i word = patched bytes i (little_bytes 4 word) 4

-- the half-word at place i
abbrev pub half_in : List ℕ → ℕ → ℕ
half_in bytes i = little_number 2 (drop i bytes)

-- the bytes with a half-word at place i
abbrev pub with_half : List ℕ → ℕ → ℕ → List ℕ
with_half bytes i half = patched bytes i (little_bytes 2 half) 2
