use Rattle.std.proofs.Common.{◌≡◌, is_some, true}
use Rattle.machine.specs.Step.{machine_with}
use Rattle.machine.specs.Replies.{bytes_at}
use Rattle.mips_step.proofs.debug.are_placed.Given as goal

-- the bytes so far have places
abbrev pub invariant-loop-k : goal.invariant-loop-k
invariant-loop-k g l = is_some (bytes_at (machine_with l.cpu (g.B.PhysBus.board l.bus)) l.address l.k) ≡ true
