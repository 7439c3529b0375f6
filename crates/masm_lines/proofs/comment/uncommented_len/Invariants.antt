use Rattle.std.proofs.Common.{◌≡◌, ◌+◌, drop}
use Rattle.masm_lines.specs.Comments.{uncommented}
use Rattle.masm_lines.specs.declared.comment.Place.TheVariants.{Plain}
use Rattle.masm_lines.proofs.comment.uncommented_len.Given as goal

abbrev pub invariant-loop-i : goal.invariant-loop-i
invariant-loop-i l = uncommented Plain l.line ≡ l.i + uncommented l.place (drop l.i l.line)
