use Rattle.std.proofs.Common.{set, sym, ap, ◌∙◌}
use Rattle.guest_pages.specs.declared.page.Page.TheVariants.{Private}
use Rattle.guest_pages.specs.Pages.{shown}
use Rattle.guest_pages.proofs.Accesses.{byte_stored, outline_stored}
use Rattle.guest_pages.proofs.map.GuestPages.write_byte.Goals as goal

pub returns-clause-memory : goal.returns-clause-memory
returns-clause-memory c =
    byte_stored c.args.self.now c.self.inside.pages.items c.number.result c.args.at c.offset_of.result c.args.byte c.index_mut.result.now
    (Private (record { number = c.in-Private.frame.number; bytes = set c.bytes_mut.result.now c.offset_of.result c.args.byte }))
    (record { seen = c.self.view_is; whole = c.self.invariant.whole; there = c.requires.there; number = c.number.ensures.value ∙ c.page_of.ensures; offset = c.offset_of.ensures; found = c.index_mut.ensures.value })
    (ap (λ bytes. set bytes c.offset_of.result c.args.byte) (c.bytes_mut.ensures.bytes ∙ sym (ap shown c.in-Private.is)))

pub returns-clause-outline : goal.returns-clause-outline
returns-clause-outline c =
    outline_stored c.args.self.now c.self.inside.pages.items c.number.result c.in-Private.frame (set c.bytes_mut.result.now c.offset_of.result c.args.byte) c.index_mut.result.now c.self.view_is c.index_mut.ensures.value c.in-Private.is
