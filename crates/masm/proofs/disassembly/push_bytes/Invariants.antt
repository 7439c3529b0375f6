use Rattle.std.proofs.Common.{◌≡◌, ◌++◌, drop, string_bytes}
use Rattle.masm.specs.Disassembly.{lines_at}
use Rattle.masm.proofs.disassembly.push_bytes.Given as goal

abbrev pub invariant-loop-byte : goal.invariant-loop-byte
invariant-loop-byte l = string_bytes l.out ++ lines_at l.at (drop l.byte-index l.bytes) ≡ string_bytes l.fn.out ++ lines_at l.address l.bytes
