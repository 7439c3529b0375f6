use Rattle.machine.specs.Step.{machine_with}
use Rattle.machine.specs.Replies.{EachPlace, CanStore}
use Rattle.mips_step.proofs.debug.first_away_to_store.Given as goal

-- the places so far can be stored to
abbrev pub invariant-loop-k : goal.invariant-loop-k
invariant-loop-k g l = EachPlace (machine_with l.cpu (g.B.PhysBus.board l.bus)) l.address l.k (CanStore (g.B.PhysBus.lacks (g.B.PhysBus.kept l.bus)))
