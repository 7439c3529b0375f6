use Rattle.std.proofs.Common.{rules, arith, ◌≡◌, ◌∷◌, ◌++◌, [], length, ap, refl}
use Rattle.machine_memory.specs.Gathered.{GatheredIs}
use Rattle.guest_cells.proofs.Leaving.{handles_count, gathered_count}
use Rattle.guest_cells.proofs.Housing.{one_more_asked, more_of_memory}
use Rattle.guest_cells.proofs.making.house_next.Goals as goal

pub push_reserved-requires-in-Ok : goal.push_reserved-requires-in-Ok
push_reserved-requires-in-Ok g c =
    let count = handles_count c.args.housed.now.cells.items c.args.housed.now.handles.items c.requires.handles in
    search rules

pub give_up-requires-clause-more : goal.give_up-requires-clause-more
give_up-requires-clause-more g c =
    let ended : length c.end_all.new.gathered.pages ≡ length c.args.housed.now.cells.items =
    gathered_count g.S.SwapStore.true_to_digests c.args.gathered.now c.end_all.new.gathered c.args.housed.now.cells.items c.args.housed.now.handles.items c.end_all.new.ended.items (length c.args.housed.now.cells.items)
    (ap (λ (v : GatheredIs). v.pages) c.requires.gathered) c.end_all.ensures.gathered c.end_all.ensures.ended refl in
    omega arith

pub returns-in-Ok-clause-its_memory : goal.returns-in-Ok-clause-its_memory
returns-in-Ok-clause-its_memory g c =
    more_of_memory c.args.memory.now c.push_reserved.new.self.items c.args.housed.now.cells.items c.in-Ok.made.cell c.push_reserved.ensures.items c.requires.its_memory c.in-Ok.ensures.its_memory

pub returns-in-Ok-clause-as_asked : goal.returns-in-Ok-clause-as_asked
returns-in-Ok-clause-as_asked g c others are =
    one_more_asked c.args.log_runs (others ++ c.args.asked ∷ []) others c.args.asked c.push_reserved.new.self.items c.args.housed.now.cells.items c.in-Ok.made.cell
    c.push_reserved-in-Ok.new.self.items c.args.housed.now.handles.items (record { seats = c.in-Ok.made.seats; feed = c.in-Ok.made.feed }) refl c.push_reserved.ensures.items c.push_reserved-in-Ok.ensures.items are c.in-Ok.ensures.as_asked

pub returns-in-Err-clause-all : goal.returns-in-Err-clause-all
returns-in-Err-clause-all g c =
    let ended : length c.end_all.new.gathered.pages ≡ length c.args.housed.now.cells.items =
    gathered_count g.S.SwapStore.true_to_digests c.args.gathered.now c.end_all.new.gathered c.args.housed.now.cells.items c.args.housed.now.handles.items c.end_all.new.ended.items (length c.args.housed.now.cells.items)
    (ap (λ (v : GatheredIs). v.pages) c.requires.gathered) c.end_all.ensures.gathered c.end_all.ensures.ended refl in
    omega (arith, c.give_up.ensures.one)
