use Rattle.std.proofs.Common.{◌≡◌, ◌≤◌, length}
use Rattle.masm_columns.specs.Columns as spec
use Rattle.masm_columns.proofs.column.operand_from.Given as goal

abbrev pub invariant-loop-left : goal.invariant-loop-left
invariant-loop-left l = record {
  value : spec.operand_from l.left l.line l.place ≡ spec.operand_from l.number l.line l.from;
  within : l.place ≤ length l.line;
}

abbrev pub decreases-loop-left : goal.decreases-loop-left
decreases-loop-left l = l.left
