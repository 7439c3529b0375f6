use Rattle.std.proofs.Common.{◌≡◌, ◌≤◌, ◌+◌, ◌-◌, take, length}
use Rattle.std.specs.List.{suffix_len}
use Rattle.masm_lines.specs.Characters.{is_blank}
use Rattle.masm_lines.proofs.scan.blanks_at_end.Given as goal

abbrev pub invariant-loop-count : goal.invariant-loop-count
invariant-loop-count l = record {
  within : l.count ≤ length l.text;
  counted : suffix_len is_blank l.text ≡ l.count + suffix_len is_blank (take (length l.text - l.count) l.text);
}

abbrev pub decreases-loop-count : goal.decreases-loop-count
decreases-loop-count l = length l.text - l.count
