use Rattle.std.proofs.Common.{◌≡◌, take, string_bytes}
use Rattle.masm.specs.Disassembly.{image_lines}
use Rattle.masm.proofs.disassembly.disassembly_of.Given as goal

abbrev pub invariant-loop-segment : goal.invariant-loop-segment
invariant-loop-segment l = string_bytes l.out ≡ image_lines (take l.segment-index l.segment-items)
