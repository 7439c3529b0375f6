use Rattle.std.specs.Option.{option_to_list}
use Rattle.machine_memory.proofs.Frames.{frames_given_back, gave_after}
use Rattle.machine_memory.proofs.Dealing.{kept_on}
use Rattle.machine_memory.proofs.memory.MachineMemory.give_back.Goals as goal

pub returns-clause-frames : goal.returns-clause-frames
returns-clause-frames g c =
    frames_given_back c.args.self.now.books.id c.args.stake.now.share c.args.returned (g.P.Pages.pages c.args.pages.now) c.args.stake.now.pass c.give.new.stake.pass (option_to_list c.back-hand.result)
    c.back-hand.ensures.frames (gave_after c.args.stake.now.pass c.back-hand.new.stake.pass c.give.new.stake.pass (option_to_list c.back-hand.result) c.back-hand.ensures.pass c.give.ensures.given)

pub returns-clause-kept : goal.returns-clause-kept
returns-clause-kept g c view k = kept_on _ _ view _ c.give.ensures.contents (c.back-hand.ensures.kept view k)
