-- Files whose verdicts are worked out by hand.
use Rattle.std.specs.Prelude.{ℕ, List, ◌++◌, replicate}
use Rattle.elf32.specs.Files.{word, header_bytes}

-- a file of zeros
abbrev pub zeros : ℕ → List ℕ
zeros count = replicate count 0

-- a file of one program header and a byte behind it. The segment has its bytes at an offset, is loaded at an address, and
-- has a size in the file and one in memory. The file is entered at the address.
abbrev pub one_segment : ℕ → ℕ → ℕ → ℕ → List ℕ
one_segment offset address file_size memory_size =
    header_bytes address 1
    ++ word 1 ++ word offset ++ word address ++ word 0 ++ word file_size ++ word memory_size ++ word 0 ++ word 0
    ++ zeros 1
