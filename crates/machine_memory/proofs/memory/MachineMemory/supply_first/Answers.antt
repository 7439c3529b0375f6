use Rattle.std.proofs.Common.{[], refl, ap}
use Rattle.machine_memory.specs.declared.stake.Stake.{Stake}
use Rattle.machine_memory.proofs.Frames.{frames_unmoved, frames_supplied_by}
use Rattle.machine_memory.proofs.memory.MachineMemory.supply_first.Goals as goal

pub returns-in_default-clause-frames : goal.returns-in_default-clause-frames
returns-in_default-clause-frames g c = frames_unmoved _ _ _ _ refl (ap (λ (s : Stake). s.pass) c.in_default.ensures.unchanged)

pub returns-clause-frames : goal.returns-clause-frames
returns-clause-frames g c = frames_supplied_by _ _ _ _ c.take.new.stake.pass [] [] c.in-Some.no _ (c.first_supplied-done.ensures.frames []) c.in-Some.ensures.taken c.give.ensures.given
