use Rattle.std.proofs.Common.{rules}
use Rattle.guest_cells.specs.Handles.{AreOfMemory, AreHandlesOfAll}
use Rattle.guest_cells.proofs.Leaving.{last_of_memory, last_handles}
use Rattle.guest_cells.proofs.ending_tests.+move_all.Goals as goal

pub move_all-all-requires : goal.move_all-all-requires
move_all-all-requires g t c κs within =
    let of : AreOfMemory c.args.memory.now c.in-Some.others.now = (last_of_memory c.args.memory.now c.args.cells.now c.in-Some.others.now c.in-Some.cell.now c.requires.memory c.in-Some.ensures.cases.0).1 in
    let handles : AreHandlesOfAll c.in-Some.others.now c.pop.new.self.items =
    (last_handles c.args.cells.now c.in-Some.others.now c.in-Some.cell.now c.args.handles.now.items c.pop.new.self.items c.in-Some-pop.last c.requires.handles c.in-Some.ensures.cases.0 c.in-Some-pop.ensures.items).1 in
    (search rules, (within, (of, handles)))
