use Rattle.std.proofs.Common.{arith}
use Rattle.machine_memory.proofs.Auditing.{gathered_by}
use Rattle.machine_memory.proofs.memory.MachineMemory.gather.Goals as goal

pub invariant_of-gathered : goal.invariant_of-gathered
invariant_of-gathered g c =
    gathered_by _ (g.P.Pages.pages c.args.pages.now) c.gathered.inside.share c.lend.new.to c.args.stake.now.share c.lend.ensures.to c.requires.level.share _ _ _ _ _ _ _ _ _ _ c.gathered.invariant
    c.requires.counts.in_own_frames c.requires.counts.in_shared_frames c.requires.counts.in_slots c.from.ensures c.from-2.ensures c.from-3.ensures (omega (arith, c.count-pages.ensures, c.count-pages.type_inv))
