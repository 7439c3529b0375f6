use Rattle.std.proofs.Common.{◌≡◌, take, Some}
use Rattle.machine.specs.Step.{machine_with}
use Rattle.machine.specs.Replies.{bytes_at}
use Rattle.mips_step.proofs.debug.read_all.Given as goal

-- the bytes so far are read
abbrev pub invariant-loop-k : goal.invariant-loop-k
invariant-loop-k g l = bytes_at (machine_with l.cpu (g.B.PhysBus.board l.bus)) l.address l.k ≡ Some (take l.k l.bytes)
