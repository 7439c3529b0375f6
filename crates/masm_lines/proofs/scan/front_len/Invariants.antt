use Rattle.std.proofs.Common.{◌≡◌, ◌+◌, drop}
use Rattle.std.specs.List.{prefix_len}
use Rattle.masm_lines.specs.Classes.{class_test}
use Rattle.masm_lines.proofs.scan.front_len.Given as goal

abbrev pub invariant-loop-i : goal.invariant-loop-i
invariant-loop-i l = prefix_len (class_test l.class) l.text ≡ l.i + prefix_len (class_test l.class) (drop l.i l.text)
