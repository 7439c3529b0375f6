-- The text of bytes of memory, in lines of 16.
use Rattle.std.specs.Prelude.{ℕ, zero, suc, ◌+◌, ◌-◌, ◌*◌, ◌/◌, ◌%◌, ◌^◌, min, List, [], ◌++◌, codes, Option, Some, None}
use Rattle.machine.specs.Step.{Machine}
use Rattle.machine.specs.Replies.{bytes_at}
use Rattle.dump.specs.Dumps.{digits_of}
use Rattle.masm.specs.Disassembly.{hex_word}

-- two digits a byte, or that one of them has no place in memory
abbrev pub read_text : Option (List ℕ) → List ℕ
read_text None = codes "no place"
read_text (Some bytes) = digits_of bytes

unfoldable pub label_text : ℕ → List ℕ
label_text address = codes "mem " ++ hex_word address ++ codes " "

-- some bytes at a virtual address, as a debugger reads them
abbrev pub bytes_text : Machine → ℕ → ℕ → List ℕ
bytes_text m address count = label_text address ++ read_text (bytes_at m address count) ++ codes "\n"

-- the first lines of so many bytes, 16 bytes each but for the last
abbrev pub lines_text : Machine → ℕ → ℕ → ℕ → List ℕ
lines_text m address count zero = []
lines_text m address count (suc k) = lines_text m address count k ++ bytes_text m ((address + 16 * k) % 2 ^ 32) (min 16 (count - 16 * k))

abbrev pub memory_text : Machine → ℕ → ℕ → List ℕ
memory_text m address count = lines_text m address count ((count + 15) / 16)
