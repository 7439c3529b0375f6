use Rattle.std.proofs.Common.{ℕ, length, refl, ap}
use Rattle.word32.specs.Zeros.{zeros}
use Rattle.frames.specs.Frames.{FrameIs}
use Rattle.guest_pages.specs.Pages.{page_at, own_frame}
use Rattle.tenant.specs.Loading.{boot_page}
use Rattle.tenant.proofs.Booting.{loaded_conserves, loaded_page, supplied_length}
use Rattle.tenant.proofs.loading.load_in_frame.Goals as goal

pub returns-clause-conserves : goal.returns-clause-conserves
returns-clause-conserves c = λ book es.
    let old = c.args.guest.now.bus.pages in
    let mid = c.supply_first_from.new.pages.bus.pages in
    let frame : FrameIs = record { number = (own_frame (page_at mid c.args.p)).number; bytes = boot_page c.args.image.now (length mid) c.args.p } in
    loaded_conserves old mid c.load_page.new.self.bus.pages c.args.p (zeros 4096) frame c.args.pool.now c.supply_first_from.new.pool book es
    c.requires.there c.in_ok-supply_first_from.ensures.supplied refl c.load_page.ensures.pages (c.supply_first_from.ensures.conserves book es)

pub returns-clause-loaded : goal.returns-clause-loaded
returns-clause-loaded c =
    let old = c.args.guest.now.bus.pages in
    let mid = c.supply_first_from.new.pages.bus.pages in
    let frame : FrameIs = record { number = (own_frame (page_at mid c.args.p)).number; bytes = boot_page c.args.image.now (length mid) c.args.p } in
    let supplied = c.in_ok-supply_first_from.ensures.supplied in
    loaded_page old mid c.load_page.new.self.bus.pages c.args.p (zeros 4096) (boot_page c.args.image.now (length old) c.args.p) frame
    c.requires.there supplied (ap (λ (n : ℕ). boot_page c.args.image.now n c.args.p) (supplied_length old mid c.args.p (zeros 4096) supplied)) c.load_page.ensures.pages
