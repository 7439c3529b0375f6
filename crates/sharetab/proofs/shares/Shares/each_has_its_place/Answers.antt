use Rattle.std.proofs.Common.{rules, ◌≡◌, sym, subst}
use Rattle.sharetab.specs.Entries.{EntriesAre, OneEntryEach}
use Rattle.sharetab.proofs.Indexing.{one_entry_each}
use Rattle.sharetab.proofs.shares.Shares.each_has_its_place.Goals as goal

pub returns-clause-entries : goal.returns-clause-entries
returns-clause-entries c =
    let same : c.args.self.now.entries ≡ c.self.inside.entries = search rules in
    subst (λ (es : EntriesAre). OneEntryEach es) (sym same) (one_entry_each c.self.inside.entries c.self.inside.index c.self.invariant)
