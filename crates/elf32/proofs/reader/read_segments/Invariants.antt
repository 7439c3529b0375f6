use Rattle.std.proofs.Common.{◌≡◌, map, take}
use Rattle.std.specs.List.{filter}
use Rattle.elf32.specs.Headers.{is_loaded, shown, segment_of}
use Rattle.elf32.proofs.reader.read_segments.Given as goal

-- the segments of the headers so far
abbrev pub invariant-loop-header : goal.invariant-loop-header
invariant-loop-header l = map shown l.segments.items ≡ map (segment_of l.file) (filter is_loaded (take l.header-index l.headers))
