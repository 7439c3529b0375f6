use Rattle.std.proofs.Common.{◌≡◌, ◌+◌, drop}
use Rattle.std.specs.List.{prefix_len}
use Rattle.masm_columns.specs.Places.{has}
use Rattle.masm_columns.proofs.place.front_len.Given as goal

abbrev pub invariant-loop-i : goal.invariant-loop-i
invariant-loop-i l = prefix_len (has l.class) l.text ≡ l.i + prefix_len (has l.class) (drop l.i l.text)
