use Rattle.std.proofs.Common.{ap, []}
use Rattle.std.specs.Option.{option_to_list}
use Rattle.machine_memory.specs.Memories.{MemoryIs}
use Rattle.machine_memory.proofs.Frames.{come_back_as}
use Rattle.machine_memory.proofs.memory.MachineMemory.back.Goals as goal

pub returns-in-Nothing-clause-frames : goal.returns-in-Nothing-clause-frames
returns-in-Nothing-clause-frames g c =
    come_back_as c.self.inside.books.id c.args.self.now.books.id c.args.stake.now.share _ c.args.returned (g.P.Pages.pages c.args.pages.now) [] [] [] (ap (λ (m : MemoryIs _). m.books.id) c.self.view_is) c.in-Nothing.is
    (c.nothing_returned.ensures.frames [])

pub returns-in-Frame-clause-frames : goal.returns-in-Frame-clause-frames
returns-in-Frame-clause-frames g c =
    come_back_as c.self.inside.books.id c.args.self.now.books.id c.args.stake.now.share _ c.args.returned (g.P.Pages.pages c.args.pages.now) (option_to_list c.frame_returned.result) [] []
    (ap (λ (m : MemoryIs _). m.books.id) c.self.view_is) c.in-Frame.is (c.frame_returned.ensures.frames [])
