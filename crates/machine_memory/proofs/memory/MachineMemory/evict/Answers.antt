use Rattle.machine_memory.proofs.Frames.{frames_moved_by}
use Rattle.machine_memory.proofs.Dealing.{kept_on}
use Rattle.machine_memory.proofs.memory.MachineMemory.evict.Goals as goal

pub returns-clause-frames : goal.returns-clause-frames
returns-clause-frames g c = frames_moved_by _ _ _ _ _ _ _ c.evicted-done.ensures.frames c.give.ensures.given

pub returns-clause-kept : goal.returns-clause-kept
returns-clause-kept g c view k = kept_on _ _ view _ c.give.ensures.contents (c.evicted-done.ensures.kept view k)
