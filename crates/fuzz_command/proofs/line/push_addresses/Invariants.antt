use Rattle.std.proofs.Common.{◌≡◌, ◌++◌, flat_map, string_bytes, take}
use Rattle.fuzz_command.specs.Lines.{address_text}
use Rattle.fuzz_command.proofs.line.push_addresses.Given as goal

-- the addresses of the words up to here are there
abbrev pub invariant-loop-word : goal.invariant-loop-word
invariant-loop-word l = string_bytes l.out ≡ string_bytes l.fn.out ++ flat_map address_text (take l.word-index l.words)
