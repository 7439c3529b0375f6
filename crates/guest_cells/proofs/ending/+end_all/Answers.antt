use Rattle.std.proofs.Common.{rules, ◌≡◌, ◌+◌, ◌≤◌, length}
use Rattle.guest_cells.specs.Handles.{AreOfMemory, AreHandlesOfAll}
use Rattle.guest_cells.proofs.Leaving.{last_of_memory, last_handles, handles_count, ended_without, one_more_ended, ended_count}
use Rattle.guest_cells.proofs.ending.+end_all.Goals as goal

pub end-last-requires-clause-handles : goal.end-last-requires-clause-handles
end-last-requires-clause-handles g t c =
    (last_handles c.args.cells.now.items c.pop.new.self.items c.in-Some.cell c.args.handles.now.items c.pop-2.new.self.items c.in-Some-pop.its_handles c.requires.handles c.in-Some.ensures.items c.in-Some-pop.ensures.items).0

pub end_all-requires : goal.end_all-requires
end_all-requires g t c κs within =
    let of : AreOfMemory c.args.memory.now c.pop.new.self.items = (last_of_memory c.args.memory.now c.args.cells.now.items c.pop.new.self.items c.in-Some.cell c.requires.its_memory c.in-Some.ensures.items).1 in
    let handles : AreHandlesOfAll c.pop.new.self.items c.pop-2.new.self.items =
    (last_handles c.args.cells.now.items c.pop.new.self.items c.in-Some.cell c.args.handles.now.items c.pop-2.new.self.items c.in-Some-pop.its_handles c.requires.handles c.in-Some.ensures.items c.in-Some-pop.ensures.items).1 in
    let more : length c.gather.new.gathered.pages + length c.pop.new.self.items ≤ c.args.memory.now.books.key.guests = search rules in
    (search rules, (within.0, (within.1, (of, (handles, (search rules, (more, (search rules, search rules))))))))

pub push_reserved-requires : goal.push_reserved-requires
push_reserved-requires g t c =
    let count = ended_count g.S.SwapStore.true_to_digests c.pop.new.self.items c.pop-2.new.self.items c.end_all.new.ended.items c.end_all.ensures.ended in
    search rules

pub returns-clause-ended : goal.returns-clause-ended
returns-clause-ended g t c =
    one_more_ended g.S.SwapStore.true_to_digests c.args.cells.now.items c.pop.new.self.items c.in-Some.cell c.args.handles.now.items c.pop-2.new.self.items c.in-Some-pop.its_handles c.push_reserved.new.self.items c.end_all.new.ended.items _
    c.in-Some.ensures.items c.in-Some-pop.ensures.items c.push_reserved.ensures.items c.end_all.ensures.ended (ended_without g.S.SwapStore.true_to_digests c.in-Some.cell.front c.in-Some-pop.its_handles c.end-last.result c.gather.new.stake c.end-last.ensures.ended)

pub unreachable-requires : goal.unreachable-requires
unreachable-requires g t c =
    let count : length c.args.cells.now.items ≡ length c.args.handles.now.items = handles_count c.args.cells.now.items c.args.handles.now.items c.requires.handles in
    search rules
