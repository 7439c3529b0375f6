use Rattle.std.proofs.Common.{sym, ap, ◌∙◌}
use Rattle.word32.specs.Words.{with_word}
use Rattle.guest_pages.specs.declared.page.Page.TheVariants.{Private}
use Rattle.guest_pages.specs.Pages.{shown}
use Rattle.guest_pages.proofs.Accesses.{word_stored, outline_stored}
use Rattle.guest_pages.proofs.map.GuestPages.write_word.Goals as goal

pub returns-clause-memory : goal.returns-clause-memory
returns-clause-memory c =
    word_stored c.args.self.now c.self.inside.pages.items c.number.result c.args.at c.offset_of.result c.args.word c.index_mut.result.now
    (Private (record { number = c.in-Private.frame.number; bytes = c.put_word.new.bytes })) c.requires.aligned
    (record { seen = c.self.view_is; whole = c.self.invariant.whole; there = c.requires.there; number = c.number.ensures.value ∙ c.page_of.ensures; offset = c.offset_of.ensures; found = c.index_mut.ensures.value })
    (c.put_word.ensures.after ∙ ap (λ bytes. with_word bytes c.offset_of.result c.args.word) (c.bytes_mut.ensures.bytes ∙ sym (ap shown c.in-Private.is)))

pub returns-clause-outline : goal.returns-clause-outline
returns-clause-outline c =
    outline_stored c.args.self.now c.self.inside.pages.items c.number.result c.in-Private.frame c.put_word.new.bytes c.index_mut.result.now c.self.view_is c.index_mut.ensures.value c.in-Private.is
