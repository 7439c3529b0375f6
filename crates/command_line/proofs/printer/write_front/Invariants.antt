use Rattle.std.proofs.Common.{◌≡◌, ℕ, List, ◌++◌}
use Rattle.std.specs.Io.KnownBytes.{Appends}
use Rattle.command_line.proofs.printer.write_front.Given as goal

-- what is gone from `rest` is written
abbrev pub invariant-loop : goal.invariant-loop
invariant-loop g l = (done : List ℕ) × (l.fn.text ≡ done ++ l.rest) × Appends (g.W.Write.contents l.fn.to) (g.W.Write.contents l.to) done
