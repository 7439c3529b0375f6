use Rattle.std.proofs.Common.{[], refl, sym, ◌∙◌}
use Rattle.accounts.proofs.Settled.{given_ticket_moved}
use Rattle.lent_pages.proofs.Frames.{ticket_came}
use Rattle.lent_pages.proofs.returning.ticket_returned.Goals as goal

pub leave-hand-requires : goal.leave-hand-requires
leave-hand-requires g c =
    let b = c.requires.behind in
    c.meet_table.ensures.returned b.before [] b.was b.given c.args.ticket (sym b.what)

pub settle_table-requires : goal.settle_table-requires
settle_table-requires g c =
    let b = c.requires.behind in
    record {
      moved = given_ticket_moved _ _ _ b.before b.before _ b.given c.args.ticket c.args.table.now.shares.entries _ c.leave-hand.result (c.meet_table.ensures.guest ∙ b.was)
          (c.meet_table.ensures.table ∙ c.requires.table) refl b.pages (sym b.what) (c.meet_table.ensures.covered b.before [] b.was) c.leave-hand.ensures.entries c.leave-hand.ensures.frame;
    }

pub returns-clause-frames : goal.returns-clause-frames
returns-clause-frames g c before given was is what = ticket_came before _ given c.args.ticket _ _ c.leave-hand.result is what c.leave-hand.ensures.entries c.leave-hand.ensures.frame
