use Rattle.std.proofs.Common.{ap}
use Rattle.std.specs.Option.{option_to_list}
use Rattle.machine_memory.specs.Memories.{MemoryIs}
use Rattle.machine_memory.proofs.Frames.{come_back}
use Rattle.machine_memory.proofs.memory.MachineMemory.ticket_back.Goals as goal

pub returns-clause-frames : goal.returns-clause-frames
returns-clause-frames g c =
    come_back c.self.inside.books.id c.args.self.now.books.id c.args.stake.now.share _ (g.P.Pages.pages c.args.pages.now) (option_to_list c.ticket_returned-hand.result) c.take-table.result.0.shares.entries _
    (ap (λ (m : MemoryIs _). m.books.id) c.self.view_is) c.ticket_returned-hand.ensures.frames
