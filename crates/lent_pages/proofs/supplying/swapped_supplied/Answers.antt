use Rattle.std.proofs.Common.{[], ◌∷◌, ◌∙◌, ap, arith}
use Rattle.accounts.proofs.Settled.{swapped_moved}
use Rattle.lent_pages.proofs.Frames.{frames_from_hand}
use Rattle.slot_contents.specs.Contents.{without}
use Rattle.slot_contents.specs.Shares.{owner_share, its_written}
use Rattle.lent_pages.proofs.Holding.{kept_less}
use Rattle.lent_pages.proofs.supplying.swapped_supplied.Goals as goal

pub supply_swapped-requires-clause-slot : goal.supply_swapped-requires-clause-slot
supply_swapped-requires-clause-slot g c =
    omega (arith, c.meet_slots.ensures.inside (g.P.Pages.pages c.args.pages.now) (c.args.no ∷ []) c.requires.share c.args.p c.requires.kind, c.requires.swap.size)

pub give-requires : goal.give-requires
give-requires g c = c.meet_slots.ensures.used (g.P.Pages.pages c.args.pages.now) (c.args.no ∷ []) c.requires.share c.args.p c.requires.kind

pub settle_slots-requires : goal.settle_slots-requires
settle_slots-requires g c = record {
  moved = swapped_moved _ _ _ _ _ c.args.no c.in-Ok.slot c.args.swap.now.slots _ (c.meet_slots.ensures.guest ∙ c.requires.share) (c.meet_slots.ensures.slots ∙ c.requires.swap.account)
      c.in-Ok.ensures.conserves (record { numbers = c.give.ensures.given; out = c.give.ensures.out }) c.supply_swapped.ensures.reads;
}

pub returns-in-Ok-clause-frames : goal.returns-in-Ok-clause-frames
returns-in-Ok-clause-frames g c es =
    frames_from_hand _ _ es es c.args.no [] (λ pool rest taken. (c.in-Ok.ensures.conserves pool rest c.args.swap.now.slots c.give.new.self es taken (record { numbers = c.give.ensures.given; out = c.give.ensures.out })).frames)

pub returns-in-Ok-clause-kept : goal.returns-in-Ok-clause-kept
returns-in-Ok-clause-kept g c trust view =
    kept_less c.args.contents.now.id c.args.written.now c.freed.new.owner _ _ view (g.P.Pages.pages c.args.pages.now) (g.P.Pages.pages c.supply_swapped.new.pages) c.args.p c.number-number.result _ c.requires.written
    c.meet.ensures.holds c.requires.there c.in-Ok.ensures.supplied (c.freed.ensures.owner ∙ ap (λ s. owner_share c.args.contents.now.id (without c.number-number.result (its_written s))) c.meet.ensures.owner)
    (c.supply_swapped.ensures.kept (c.requires.swap.still.true_to_digests.1 trust) view)
