use Rattle.std.proofs.Common.{rules, ◌≡◌, []}
use Rattle.guest_cells.proofs.Leaving.{gathered_count}
use Rattle.guest_cells.proofs.boot.with_auditor.Goals as goal

pub store_of-requires-clause-all : goal.store_of-requires-clause-all
store_of-requires-clause-all g c =
    let none : c.into_gathered-gathered.result.pages ≡ [] = first_of (search rules, cc) in
    gathered_count g.S.SwapStore.true_to_digests c.into_gathered-gathered.result c.end_all.new.gathered c.args.housed.cells.items c.args.housed.handles.items c.end_all.new.ended.items c.args.memory.books.key.guests none c.end_all.ensures.gathered c.end_all.ensures.ended c.requires.count

pub returns-in-Ok-clause-guests : goal.returns-in-Ok-clause-guests
returns-in-Ok-clause-guests g c log_runs asked are = are
