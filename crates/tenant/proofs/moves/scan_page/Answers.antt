use Rattle.std.specs.Option.{option_to_list}
use Rattle.tenant.proofs.Moving.{came_free_out, scanned_conserves}
use Rattle.tenant.proofs.moves.scan_page.Goals as goal

pub frame_back-requires : goal.frame_back-requires
frame_back-requires g c = record {
  out = λ number is. came_free_out (g.P.Pages.pages c.args.pages.now) c.args.pool.now c.args.shares.now.entries c.scan_in-scan.result.1 (g.P.Pages.pages c.scan_in-scan.new.pages) c.scan_in-scan.new.shares.entries
      number c.requires.frame_out (c.scan_in-scan.ensures.frames c.args.pool.now) is;
}

pub returns-clause-conserves : goal.returns-clause-conserves
returns-clause-conserves g c = λ book.
    let ps = g.P.Pages.pages c.args.pages.now in
    let ps' = g.P.Pages.pages c.scan_in-scan.new.pages in
    let old = c.args.shares.now.entries in
    let new = c.scan_in-scan.new.shares.entries in
    scanned_conserves ps ps' c.args.pool.now c.frame_back.new.pool book old new
    (c.frame_back.ensures ps ps' c.args.pool.now old new (c.scan_in-scan.ensures.frames c.args.pool.now)) (c.scan_in-scan.ensures.slots book) c.scan_in-scan.ensures.tickets

pub returns-clause-comes : goal.returns-clause-comes
returns-clause-comes g c = (option_to_list c.scan_in-scan.result.1, c.scan_in-scan.ensures.comes)
