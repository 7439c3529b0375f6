use Rattle.accounts.proofs.Settled.{first_moved}
use Rattle.lent_pages.proofs.Frames.{frames_supplied}
use Rattle.lent_pages.proofs.supplying.first_supplied.Goals as goal

pub settle-requires : goal.settle-requires
settle-requires g c = record { moved = first_moved _ _ _ _ c.args.no c.requires.share c.in-Ok.ensures.conserves c.supply_first.ensures.reads }

pub returns-in-Ok-clause-frames : goal.returns-in-Ok-clause-frames
returns-in-Ok-clause-frames g c = frames_supplied _ _ c.args.no c.in-Ok.ensures.conserves
