use Rattle.std.proofs.Common.{[], refl, sym, ◌∙◌}
use Rattle.accounts.proofs.Settled.{given_slot_moved}
use Rattle.lent_pages.proofs.Frames.{slot_came}
use Rattle.lent_pages.proofs.Holding.{kept_back}
use Rattle.lent_pages.proofs.returning.slot_returned.Goals as goal

pub give-requires : goal.give-requires
give-requires g c =
    let b = c.requires.behind in
    c.meet_slots.ensures.returned b.before [] b.was b.given c.args.slot (sym b.what)

pub settle_slots-requires : goal.settle_slots-requires
settle_slots-requires g c =
    let b = c.requires.behind in
    record {
      moved = given_slot_moved _ _ _ b.before b.before _ b.given c.args.slot c.args.swap.now.slots _ (c.meet_slots.ensures.guest ∙ b.was) (c.meet_slots.ensures.slots ∙ c.requires.swap.account) refl b.pages
          (sym b.what) (record { numbers = c.give.ensures.given; out = c.give.ensures.out });
    }

pub returns-clause-frames : goal.returns-clause-frames
returns-clause-frames g c es before given was is what = slot_came before _ given c.args.slot es is what

pub returns-clause-kept : goal.returns-clause-kept
returns-clause-kept g c view = kept_back c.args.contents.now.id c.args.written.now c.freed.new.owner view (g.P.Pages.pages c.args.pages.now) _ c.freed.ensures.owner
