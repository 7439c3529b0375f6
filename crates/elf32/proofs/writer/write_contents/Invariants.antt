use Rattle.std.proofs.Common.{◌≡◌, ◌++◌, drop}
use Rattle.elf32.specs.Files.{contents}
use Rattle.elf32.proofs.writer.write_contents.Given as goal

-- what is written and the bytes that are left are all bytes
abbrev pub invariant-loop-segment : goal.invariant-loop-segment
invariant-loop-segment l = l.file.items ++ contents (drop l.segment-index l.segments) ≡ l.fn.file.items ++ contents l.segments
