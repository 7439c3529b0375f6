use Rattle.std.proofs.Common.{◌≡◌, take, string_bytes}
use Rattle.diagnosis.specs.Printable.{shown}
use Rattle.diagnosis.proofs.words.printable.Given as goal

abbrev pub invariant-loop-byte : goal.invariant-loop-byte
invariant-loop-byte l = string_bytes l.out ≡ shown (take l.byte-index l.bytes)
