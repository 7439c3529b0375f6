use Rattle.std.proofs.Common.{◌≡◌, ◌++◌, length, string_bytes}
use Rattle.masm.specs.Disassembly.{lines_at}
use Rattle.masm.proofs.disassembly.push_segment.Given as goal

abbrev pub invariant-loop-rest : goal.invariant-loop-rest
invariant-loop-rest l = string_bytes l.out ++ lines_at l.at l.rest ≡ string_bytes l.fn.out ++ lines_at l.address l.bytes

abbrev pub decreases-loop-rest : goal.decreases-loop-rest
decreases-loop-rest l = length l.rest
