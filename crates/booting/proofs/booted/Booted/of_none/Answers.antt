use Rattle.std.proofs.Common.{ℕ, ◌≡◌, [], sym, subst}
use Rattle.frames.specs.Counts.{below, count_of}
use Rattle.sharetab.specs.Entries.{EntriesAre}
use Rattle.page_moves.specs.Books.{Books}
use Rattle.page_moves.proofs.Starting.{books_of_nothing}
use Rattle.booting.proofs.booted.Booted.of_none.Goals as goal

pub returns-clause-exact : goal.returns-clause-exact
returns-clause-exact g c =
    let slots = g.S.SwapStore.slots c.args.store in
    let pool = c.in-Ok-new.pool in
    let book = c.in-Ok-new-2.slots in
    subst (λ (es : EntriesAre). Books c.args.frames slots [] es pool book) (sym c.in-Ok-new-3.ensures.entries)
    (books_of_nothing c.args.frames slots pool book c.in-Ok-new.ensures.each_once c.in-Ok-new.ensures.none_out
    (subst (λ (n : ℕ). (k : ℕ) → count_of k book.free ≡ below k n) c.slot_count.ensures c.in-Ok-new-2.ensures.each_once) c.in-Ok-new-2.ensures.none_used)
