use Rattle.std.proofs.Common.{[], length}
use Rattle.std.proofs.lemmas.Result.{on_ok_weaker}
use Rattle.sha2.specs.Sha256.{sha256}
use Rattle.tenant.specs.Loading.{boot_page}
use Rattle.tenant.proofs.Booting.{on_ok_both, in_slot_bytes, in_slot_kind, slot_among}
use Rattle.tenant.proofs.SlotOrder.{slot_is_lowest}
use Rattle.tenant.proofs.loading.load_in_slot.Goals as goal

pub store_page-requires-clause-inside : goal.store_page-requires-clause-inside
store_page-requires-clause-inside g c = λ slot free. slot_among c.args.slots.now c.args.guest.now.bus.pages (g.S.SwapStore.slots c.args.store.now) slot c.requires.once free

pub returns-clause-loaded : goal.returns-clause-loaded
returns-clause-loaded g c =
    let old = c.args.guest.now.bus.pages in
    let bytes = boot_page c.args.image.now (length old) c.args.p in
    let same = c.load_image_page.ensures.bytes (length old) c.requires.there c.requires.fits in
    on_ok_both c.store_page.result
    (λ page written. in_slot_bytes (g.S.SwapStore.held c.store_page.new.store) old c.store_page.new.pages.bus.pages c.args.p
    c.load_image_page.new.bytes bytes same c.requires.there page written)
    c.store_page.ensures.page c.store_page.ensures.written

pub returns-clause-away : goal.returns-clause-away
returns-clause-away g c =
    on_ok_weaker c.store_page.result
    (λ page. in_slot_kind c.args.guest.now.bus.pages c.store_page.new.pages.bus.pages c.args.p (sha256 c.load_image_page.new.bytes) c.requires.there page)
    c.store_page.ensures.page

pub returns-clause-lowest : goal.returns-clause-lowest
returns-clause-lowest g c =
    let old = c.args.guest.now.bus.pages in
    on_ok_both c.store_page.result
    (λ page lowest. slot_is_lowest c.args.slots.now c.store_page.new.slots old c.store_page.new.pages.bus.pages c.args.p (sha256 c.load_image_page.new.bytes)
    c.requires.there c.requires.untouched page (c.store_page.ensures.conserves (record { free = []; out = 0 }) []).slots lowest)
    c.store_page.ensures.page c.store_page.ensures.lowest
