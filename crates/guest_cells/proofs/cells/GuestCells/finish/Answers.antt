use Rattle.std.proofs.Common.{◌≡◌, [], ap, ◌∙◌}
use Rattle.machine_memory.specs.Gathered.{GatheredIs}
use Rattle.guest_cells.proofs.Leaving.{gathered_count, all_run}
use Rattle.guest_cells.proofs.cells.GuestCells.finish.Goals as goal

pub finish-store-requires-clause-all : goal.finish-store-requires-clause-all
finish-store-requires-clause-all g c =
    let none : c.into_gathered-gathered.result.pages ≡ [] = ap (λ (v : GatheredIs). v.pages) (c.into_gathered-gathered.ensures ∙ (c.take-auditor.ensures.fits ∙ c.args.self.none_gathered)) in
    gathered_count g.S.SwapStore.true_to_digests c.into_gathered-gathered.result c.end_all.new.gathered c.args.self.cells.items c.args.handles.items c.end_all.new.ended.items c.args.self.memory.books.key.guests none c.end_all.ensures.gathered c.end_all.ensures.ended c.args.self.count

pub returns-clause-runs : goal.returns-clause-runs
returns-clause-runs g c trust =
    all_run g.S.SwapStore.true_to_digests c.args.self.memory c.args.self.cells.items c.args.handles.items c.end_all.new.ended.items c.args.self.its_memory c.end_all.ensures.ended trust
