use Rattle.std.proofs.Common.{◌≡◌, take}
use Rattle.fuzz_command.specs.Firsts.{with_firsts}
use Rattle.fuzz_command.proofs.coverage.Coverage.add.Given as goal

-- the words up to here are added
abbrev pub invariant-loop-word : goal.invariant-loop-word
invariant-loop-word l = l.self ≡ with_firsts l.name (take l.word-index l.words) l.fn.self
