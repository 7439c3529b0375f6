use Rattle.std.proofs.Common.{◌≡◌, take, w32}
use Rattle.std.specs.Int.{to_be_bytes}
use Rattle.std.specs.List.{flat_map}
use Rattle.debugline.proofs.answer.words_in_digits.Given as goal

abbrev pub invariant-loop-word : goal.invariant-loop-word
invariant-loop-word l = l.bytes.items ≡ flat_map (λ word. to_be_bytes w32 word) (take l.word-index l.words)
