use Rattle.std.proofs.Common.{◌≡◌, ◌++◌, is_some, length, true}
use Rattle.masm_lines.specs.Texts.{quoted, bytes_in}
use Rattle.masm_lines.proofs.text.Text.push_to.Given as goal

abbrev pub invariant-loop-byte : goal.invariant-loop-byte
invariant-loop-byte l = record {
  ends : is_some (quoted l.rest) ≡ true;
  put : l.bytes.items ++ bytes_in l.rest ≡ l.fn.bytes.items ++ bytes_in l.self.text.now;
}

abbrev pub decreases-loop-byte : goal.decreases-loop-byte
decreases-loop-byte l = length l.rest
