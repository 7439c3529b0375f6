use Rattle.fuzz_command.proofs.Batches.{TakesFrom}
use Rattle.fuzz_command.proofs.lines.next_lines.Given as goal

-- the lines before this number are read
abbrev pub invariant-loop-number : goal.invariant-loop-number
invariant-loop-number g l = TakesFrom l.first l.number (g.B.Read.remaining l.fn.input) l.jobs.items (g.B.Read.remaining l.input)
