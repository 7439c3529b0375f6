use Rattle.machine_memory.proofs.Frames.{frames_moved_by}
use Rattle.std.proofs.Common.{ap}
use Rattle.lent_pages.specs.Contents.{its_slots}
use Rattle.machine_memory.specs.Memories.{MemoryIs}
use Rattle.machine_memory.proofs.Dealing.{kept_on, stays_in_hand}
use Rattle.machine_memory.proofs.memory.MachineMemory.scan.Goals as goal

pub returns-clause-frames : goal.returns-clause-frames
returns-clause-frames g c = frames_moved_by _ _ _ _ _ _ _ c.scanned-scan.ensures.frames c.give.ensures.given

pub give-requires : goal.give-requires
give-requires g c =
    stays_in_hand c.args.self.now _ _ _ _ _ _ _ (ap (λ (m : MemoryIs _). m.books.id) c.self.view_is) c.requires.pass c.requires.contents c.scanned-scan.ensures.share c.scanned-scan.ensures.slots

pub returns-clause-kept : goal.returns-clause-kept
returns-clause-kept g c view k = kept_on _ _ view _ c.give.ensures.contents (c.scanned-scan.ensures.kept (its_slots c.args.stake.now.contents) view k)
