use Rattle.std.proofs.Common.{◌≡◌, ◌*◌, length, arith}
use Rattle.guest.proofs.BootPages.{page_loaded}
use Rattle.guest.proofs.loading.load_page.Goals as goal

pub returns : goal.returns
returns c =
    let b = c.args.bus.now in
    let at : c.in_page.result ≡ c.args.p * 4096 = omega (arith, c.in_page.ensures) in
    page_loaded b c.fill.new.self c.args.p c.in_page.result c.load_image_page.new.bytes _ c.sound.ensures.whole c.whole.ensures c.requires.settled c.fill.ensures.settled
    c.requires.there c.requires.private c.fill.ensures.outline at c.fill.ensures.board c.load_image_page.ensures.length
    (c.load_image_page.ensures.bytes (length b.pages) c.requires.there c.requires.fits)
