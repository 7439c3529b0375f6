use Rattle.std.proofs.Common.{◌≡◌, is_some, length}
use Rattle.masm_lines.specs.Texts.{quoted}
use Rattle.masm_lines.proofs.quoted.is_ended.Given as goal

abbrev pub invariant-loop-more : goal.invariant-loop-more
invariant-loop-more l = is_some (quoted l.rest) ≡ is_some (quoted l.text)

abbrev pub decreases-loop-more : goal.decreases-loop-more
decreases-loop-more l = length l.rest
