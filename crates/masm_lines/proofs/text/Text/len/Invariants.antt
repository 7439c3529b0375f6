use Rattle.std.proofs.Common.{◌≡◌, ◌+◌, is_some, length, true}
use Rattle.masm_lines.specs.Texts.{quoted, bytes_in}
use Rattle.masm_lines.proofs.text.Text.len.Given as goal

abbrev pub invariant-loop-more : goal.invariant-loop-more
invariant-loop-more l = record {
  ends : is_some (quoted l.rest) ≡ true;
  counted : l.count + length (bytes_in l.rest) ≡ length (bytes_in l.self.text.now);
}

abbrev pub decreases-loop-more : goal.decreases-loop-more
decreases-loop-more l = length l.rest
