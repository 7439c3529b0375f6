use Rattle.std.proofs.Common.{◌≡◌, ◌++◌, string_bytes}
use Rattle.inspection.specs.Memory.{lines_text}
use Rattle.inspection.proofs.memory.push_memory.Given as goal

abbrev pub invariant-loop-line : goal.invariant-loop-line
invariant-loop-line g l = string_bytes l.out ≡ string_bytes l.fn.out ++ lines_text (g.M.Runnable.state l.machine) l.address l.length l.line
