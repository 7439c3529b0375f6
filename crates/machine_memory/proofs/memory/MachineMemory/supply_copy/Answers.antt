use Rattle.std.proofs.Common.{refl, ap}
use Rattle.machine_memory.specs.declared.stake.Stake.{Stake}
use Rattle.machine_memory.proofs.Frames.{frames_unmoved, frames_supplied_by}
use Rattle.machine_memory.specs.Memories.{MemoryIs}
use Rattle.machine_memory.proofs.Dealing.{stays_in_hand}
use Rattle.machine_memory.proofs.memory.MachineMemory.supply_copy.Goals as goal

pub returns-in_default-clause-frames : goal.returns-in_default-clause-frames
returns-in_default-clause-frames g c = frames_unmoved _ _ _ _ refl (ap (λ (s : Stake). s.pass) c.in_default.ensures.unchanged)

pub returns-clause-frames : goal.returns-clause-frames
returns-clause-frames g c = frames_supplied_by _ _ _ _ c.take.new.stake.pass _ _ c.in-Some.no _ c.copy_supplied-done.ensures.frames c.in-Some.ensures.taken c.give.ensures.given

pub give-requires : goal.give-requires
give-requires g c =
    stays_in_hand c.args.self.now _ _ _ _ _ _ _ (ap (λ (m : MemoryIs _). m.books.id) c.self.view_is) c.in-Some.ensures.hand.pass c.in-Some.ensures.hand.contents c.copy_supplied-done.ensures.share
    c.copy_supplied-done.ensures.slots
