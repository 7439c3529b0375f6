use Rattle.std.proofs.Common.{◌∙◌}
use Rattle.cell.proofs.Slicing.{joined}
use Rattle.cell.proofs.Sitting.{stayed}
use Rattle.cell.proofs.turns.take_bytes.Goals as goal

pub returns-in-Ok-Nothing-clause-slice : goal.returns-in-Ok-Nothing-clause-slice
returns-in-Ok-Nothing-clause-slice g c = joined c.args.seat.now 0 c.loop.seat 0 c.take_byte.new.seat c.loop.invariant.slice c.take_byte.ensures.slice

pub returns-in-Ok-NoRoom-clause-slice : goal.returns-in-Ok-NoRoom-clause-slice
returns-in-Ok-NoRoom-clause-slice g c = joined c.args.seat.now 0 c.loop.seat 0 c.take_byte.new.seat c.loop.invariant.slice c.take_byte.ensures.slice

pub returns-in-Err-clause-slice : goal.returns-in-Err-clause-slice
returns-in-Err-clause-slice g c = joined c.args.seat.now 0 c.loop.seat 0 c.take_byte.new.seat c.loop.invariant.slice c.take_byte.ensures.slice

pub returns-in-Ok-Nothing-clause-kept : goal.returns-in-Ok-Nothing-clause-kept
returns-in-Ok-Nothing-clause-kept g c intact held k = c.take_byte.ensures.kept (c.loop.invariant.intact intact) held (c.loop.invariant.kept intact held k)

pub returns-in-Ok-NoRoom-clause-kept : goal.returns-in-Ok-NoRoom-clause-kept
returns-in-Ok-NoRoom-clause-kept g c intact held k = c.take_byte.ensures.kept (c.loop.invariant.intact intact) held (c.loop.invariant.kept intact held k)

pub returns-in-Err-clause-kept : goal.returns-in-Err-clause-kept
returns-in-Err-clause-kept g c intact held k = c.take_byte.ensures.kept (c.loop.invariant.intact intact) held (c.loop.invariant.kept intact held k)

pub loop-preserved : goal.loop-preserved
loop-preserved g c =
    let inv = c.loop.invariant in
    let byte = c.take_byte.ensures in
    record {
      queue = byte.queue ∙ inv.queue;
      taken = byte.taken;
      slice = joined c.args.seat.now 0 c.loop.seat 0 c.take_byte.new.seat inv.slice byte.slice;
      saw = byte.saw;
      stays = stayed c.args.guest.now c.loop.guest c.take_byte.new.guest inv.stays byte.stays;
      intact = λ i. byte.intact (inv.intact i);
      kept = λ i held k. byte.kept (inv.intact i) held (inv.kept i held k);
      pages = byte.pages ∙ inv.pages;
    }
