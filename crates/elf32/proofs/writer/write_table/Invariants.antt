use Rattle.std.proofs.Common.{◌≡◌, ◌+◌, ◌*◌, ◌++◌, length, drop}
use Rattle.elf32.specs.Files.{table_bytes}
use Rattle.elf32.proofs.writer.write_table.Given as goal

-- what is written and the headers that are left are all headers
abbrev pub invariant-loop-segment : goal.invariant-loop-segment
invariant-loop-segment l = l.file.items ++ table_bytes l.offset (drop l.segment-index l.segments) ≡ l.fn.file.items ++ table_bytes (52 + 32 * length l.segments) l.segments
