use Rattle.std.proofs.Common.{◌≡◌, Err, sym, ap, ◌∙◌}
use Rattle.word32.specs.Pages.{page_number}
use Rattle.mips_tlb.specs.declared.kind.Kind.TheVariants.{Store}
use Rattle.guest_bus.specs.declared.input.InputError.TheVariants.{Away}
use Rattle.guest_bus.specs.Writes.{write_error}
use Rattle.guest_bus.proofs.Refusing.{lacks_kept, away_since}
use Rattle.guest_bus.proofs.bus.GuestBus.write.Goals as goal

pub returns-in-Ok-clause-there : goal.returns-in-Ok-clause-there
returns-in-Ok-clause-there c = λ k at below found.
    sym (lacks_kept c.args.self.now.pages (page_number at) Store) ∙ c.in-Ok.ensures.there k at below found

pub returns-in-Err-clause-away : goal.returns-in-Err-clause-away
returns-in-Err-clause-away c = λ page e none.
    let refused = c.of.ensures in
    let is : write_error c.in-Err.unreached ≡ Away page = cc in
    c.in-Err.ensures.away page (ap Err (away_since c.in-Err.unreached page is)) (lacks_kept c.args.self.now.pages page Store ∙ none)
