use Rattle.std.proofs.Common.{refl}
use Rattle.machine_memory.proofs.Frames.{frames_unmoved}
use Rattle.machine_memory.proofs.memory.MachineMemory.supply.Goals as goal

pub returns-in-Private-clause-frames : goal.returns-in-Private-clause-frames
returns-in-Private-clause-frames g c = frames_unmoved _ _ _ _ refl refl
