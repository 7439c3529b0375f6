use Rattle.fuzz_command.proofs.Batches.{FilesFrom}
use Rattle.fuzz_command.proofs.files.next_files.Given as goal

-- the files before this index are read
abbrev pub invariant-loop-index : goal.invariant-loop-index
invariant-loop-index g l = FilesFrom l.files l.first l.index l.jobs.items
