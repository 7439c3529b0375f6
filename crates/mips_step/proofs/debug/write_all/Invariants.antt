use Rattle.std.proofs.Common.{◌≡◌, None, length, drop}
use Rattle.machine.specs.Step.{machine_with}
use Rattle.machine.specs.Items.{written_from}
use Rattle.mips_step.proofs.debug.write_all.Given as goal

-- what is left to write leads to the board that is wanted; the memory keeps its size, and what is kept stays
abbrev pub invariant-loop-k : goal.invariant-loop-k
invariant-loop-k g l = record {
  left : written_from l.k l.address (drop l.k l.bytes) (machine_with l.cpu (g.B.PhysBus.board l.bus)) ≡ written_from 0 l.address l.bytes (machine_with l.cpu (g.B.PhysBus.board l.fn.bus));
  size : length (g.B.PhysBus.board l.bus).memory ≡ length (g.B.PhysBus.board l.fn.bus).memory;
  kept : g.B.PhysBus.kept l.bus ≡ g.B.PhysBus.kept l.fn.bus;
  settled : g.B.PhysBus.waiting l.bus None;
}
