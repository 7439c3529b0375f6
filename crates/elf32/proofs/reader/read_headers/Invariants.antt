use Rattle.std.proofs.Common.{◌≡◌, ◌+◌, ◌*◌, map}
use Rattle.std.specs.List.{range_with_len}
use Rattle.elf32.specs.Headers.{program_header}
use Rattle.elf32.proofs.reader.read_headers.Given as goal

-- the headers below k
abbrev pub invariant-loop-k : goal.invariant-loop-k
invariant-loop-k l = l.headers.items ≡ map (λ k. program_header l.file (l.header.table + 32 * k)) (range_with_len 0 l.k)
