use Rattle.std.proofs.Common.{◌≡◌, drop}
use Rattle.elf32.specs.Faults.{overlap}
use Rattle.elf32.proofs.range.overlap.Given as goal

-- the rest overlaps where all do
abbrev pub invariant-loop-i : goal.invariant-loop-i
invariant-loop-i l = overlap (drop l.i l.ranges) ≡ overlap l.ranges
