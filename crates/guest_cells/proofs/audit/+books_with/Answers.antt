use Rattle.std.proofs.Common.{rules, ◌≡◌, ◌+◌, length, ap}
use Rattle.machine_memory.specs.Gathered.{GatheredIs}
use Rattle.guest_cells.specs.Handles.{AreOfMemory}
use Rattle.guest_cells.specs.Audits.{AreOutlines}
use Rattle.guest_cells.proofs.Gathering.{first_of_memory, outlines_more}
use Rattle.guest_cells.proofs.audit.+books_with.Goals as goal

pub books_with-counts-requires : goal.books_with-counts-requires
books_with-counts-requires g t c κs within =
    let of : AreOfMemory c.args.memory.now c.in-Some.rest.now = (first_of_memory c.args.memory.now c.args.cells.now c.in-Some.cell.now c.in-Some.rest.now c.requires.its_memory c.in-Some.ensures.cases.0).1 in
    let outlines : AreOutlines c.gather.new.gathered.pages = outlines_more c.args.gathered.now.pages c.gather.new.gathered.pages c.deref.result.now.bus.pages c.requires.outlines (ap (λ (v : GatheredIs). v.pages) c.gather.ensures.gathered) in
    let count : length c.gather.new.gathered.pages + length c.in-Some.rest.now ≡ c.args.memory.now.books.key.guests = search rules in
    (search rules, (within.0, (within.1, (of, (search rules, (outlines, count))))))
