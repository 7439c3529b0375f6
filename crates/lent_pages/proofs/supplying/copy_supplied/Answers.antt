use Rattle.std.proofs.Common.{[], ◌∷◌, ◌∙◌}
use Rattle.accounts.proofs.Settled.{copy_moved}
use Rattle.lent_pages.proofs.Frames.{frames_from_hand}
use Rattle.lent_pages.proofs.supplying.copy_supplied.Goals as goal

pub supply_copy-requires-clause-covered : goal.supply_copy-requires-clause-covered
supply_copy-requires-clause-covered g c = c.meet_table.ensures.covered (g.P.Pages.pages c.args.pages.now) (c.args.no ∷ []) c.requires.share

pub settle_table-requires : goal.settle_table-requires
settle_table-requires g c = record {
  moved = copy_moved _ _ _ _ _ c.args.no c.args.table.now.shares.entries _ _ (c.meet_table.ensures.guest ∙ c.requires.share) (c.meet_table.ensures.table ∙ c.requires.table) c.in-Ok.ensures.frames
      c.supply_copy.ensures.slots c.supply_copy.ensures.tickets c.supply_copy.ensures.reads;
}

pub returns-in-Ok-clause-frames : goal.returns-in-Ok-clause-frames
returns-in-Ok-clause-frames g c = frames_from_hand _ _ _ _ c.args.no _ c.in-Ok.ensures.frames
