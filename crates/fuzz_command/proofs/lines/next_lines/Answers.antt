use Rattle.fuzz_command.proofs.Batches.{taken_line, taken_more, taken_then}
use Rattle.fuzz_command.proofs.lines.next_lines.Goals as goal

pub returns-then-not-has_line-clause-lines : goal.returns-then-not-has_line-clause-lines
returns-then-not-has_line-clause-lines g c = taken_more c.args.first _ _ _ _ c.loop-number.invariant

pub returns-in-Some-clause-lines : goal.returns-in-Some-clause-lines
returns-in-Some-clause-lines g c = taken_then c.args.first _ _ _ _ _ _ _ c.loop-number.invariant c.in-Some.ensures.line

pub loop-number-preserved : goal.loop-number-preserved
loop-number-preserved g c = taken_line c.args.first _ _ _ _ _ _ c.loop-number.invariant c.in_default.ensures.line
