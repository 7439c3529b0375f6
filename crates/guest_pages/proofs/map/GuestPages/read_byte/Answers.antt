use Rattle.std.proofs.Common.{refl, sym, ap, ◌∙◌, slice_index}
use Rattle.word32.specs.Pages.{page_offset}
use Rattle.guest_pages.proofs.Accesses.{byte_found, zero_byte_found}
use Rattle.guest_pages.proofs.map.GuestPages.read_byte.Goals as goal

pub returns-in-Some : goal.returns-in-Some
returns-in-Some c =
    ap (λ bytes. slice_index bytes c.offset_of.result) c.in-Some.ensures.bytes
    ∙ byte_found c.args.self.now c.self.inside.pages.items c.number.result c.args.at c.offset_of.result c.index.result.now
    (record { seen = c.self.view_is; whole = c.self.invariant.whole; there = c.requires; number = c.number.ensures.value ∙ c.page_of.ensures; offset = c.offset_of.ensures; found = c.index.ensures })

pub returns-in-None : goal.returns-in-None
returns-in-None c =
    sym (
    zero_byte_found c.args.self.now c.self.inside.pages.items c.number.result c.args.at (page_offset c.args.at) c.index.result.now c.in-None.ensures.zeros
    (record { seen = c.self.view_is; whole = c.self.invariant.whole; there = c.requires; number = c.number.ensures.value ∙ c.page_of.ensures; offset = refl; found = c.index.ensures })
    )
