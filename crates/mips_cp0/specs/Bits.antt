-- The bits of a word, named by masks.
use Rattle.std.specs.Prelude.{ℕ, Bool, ◌-◌, ◌==◌, bit_and, bit_or}

-- whether the word has all bits of the mask
abbrev pub has_bits : ℕ → ℕ → Bool
has_bits mask word = bit_and word mask == mask

-- the word with all bits of the mask set
abbrev pub with_bits : ℕ → ℕ → ℕ
with_bits mask word = bit_or word mask

-- the word with all bits of the mask clear
abbrev pub without_bits : ℕ → ℕ → ℕ
without_bits mask word = bit_and word (0xffffffff - mask)

-- the word with its bits of the mask taken from other bits
abbrev pub replaced_bits : ℕ → ℕ → ℕ → ℕ
replaced_bits mask bits word = bit_or (without_bits mask word) (bit_and bits mask)
