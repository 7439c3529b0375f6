use Rattle.std.proofs.Common.{[], ◌∙◌}
use Rattle.accounts.proofs.Settled.{scan_moved}
use Rattle.lent_pages.proofs.Frames.{frames_from_none}
use Rattle.lent_pages.proofs.scanning.scanned.Goals as goal

pub scan_in-scan-requires-clause-covered : goal.scan_in-scan-requires-clause-covered
scan_in-scan-requires-clause-covered g c = c.meet_table.ensures.covered (g.P.Pages.pages c.args.pages.now) [] c.requires.share

pub scan_in-scan-requires-clause-own_once : goal.scan_in-scan-requires-clause-own_once
scan_in-scan-requires-clause-own_once g c = c.meet_table.ensures.own_once (g.P.Pages.pages c.args.pages.now) [] c.requires.share

pub settle_table-requires : goal.settle_table-requires
settle_table-requires g c = record {
  moved = scan_moved _ _ _ _ _ c.args.table.now.shares.entries _ _ (c.meet_table.ensures.guest ∙ c.requires.share) (c.meet_table.ensures.table ∙ c.requires.table) c.scan_in-scan.ensures.frames
      c.scan_in-scan.ensures.slots c.scan_in-scan.ensures.tickets c.scan_in-scan.ensures.reads;
}

pub returns-clause-frames : goal.returns-clause-frames
returns-clause-frames g c = frames_from_none _ _ _ _ _ c.scan_in-scan.ensures.frames
