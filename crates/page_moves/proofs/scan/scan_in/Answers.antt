use Rattle.std.specs.Option.{option_to_list}
use Rattle.page_moves.proofs.Scanning.{scanned}
use Rattle.page_moves.proofs.scan.scan_in.Goals as goal

pub returns-clause-reads : goal.returns-clause-reads
returns-clause-reads g c =
    (scanned c.args.shares.now (g.P.Pages.pages c.args.pages.now) (record { guest = c.args.guest; page = c.args.p }) c.share_in.result.0 c.share_in.new.shares.entries (g.P.Pages.pages c.share_in.new.pages)
    (option_to_list c.share_in.result.1) c.requires.covered c.share_in.ensures.answer c.share_in.ensures.comes).reads
