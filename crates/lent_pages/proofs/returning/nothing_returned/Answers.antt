use Rattle.std.proofs.Common.{refl, sym}
use Rattle.accounts.proofs.Settled.{given_nothing_moved}
use Rattle.lent_pages.proofs.Frames.{nothing_came}
use Rattle.lent_pages.proofs.returning.nothing_returned.Goals as goal

pub settle-requires : goal.settle-requires
settle-requires g c =
    let b = c.requires in
    record { moved = given_nothing_moved _ _ b.before b.before _ b.given b.was refl b.pages (sym b.what) }

pub returns-clause-frames : goal.returns-clause-frames
returns-clause-frames g c es before given was is what = nothing_came before _ given es is what
