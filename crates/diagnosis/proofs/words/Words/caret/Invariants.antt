use Rattle.std.proofs.Common.{◌≡◌, string_bytes, replicate}
use Rattle.diagnosis.proofs.words.Words.caret.Given as goal

abbrev pub invariant-loop : goal.invariant-loop
invariant-loop l = string_bytes l.text ≡ replicate l.counter 0x20
