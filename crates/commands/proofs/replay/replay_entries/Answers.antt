use Rattle.std.proofs.Common.{rules}
use Rattle.dump.proofs.Counting.{counted_after}
use Rattle.commands.proofs.Replaying.{left_after, refused_here}
use Rattle.commands.proofs.replay.replay_entries.Goals as goal

pub loop-entry-preserved : goal.loop-entry-preserved
loop-entry-preserved c = record {
  left =
      left_after c.args.entries.now c.loop-entry.entry-index c.entry-item.result c.args.flat.now c.loop-entry.flat c.replay_entry.new.flat c.loop-entry-test.true c.entry-item.is c.loop-entry.invariant.left
      c.in-Ok.ensures.run c.in-Ok.ensures.accepted;
  count = counted_after c.args.entries.now c.loop-entry.entry-index c.entry-item.result c.loop-entry.steps _ _ c.loop-entry-test.true c.entry-item.is c.loop-entry.invariant.count c.in-Ok.ensures.count (search rules);
}

pub returns-in-Err-clause-refused : goal.returns-in-Err-clause-refused
returns-in-Err-clause-refused c = λ is.
    refused_here c.args.entries.now c.loop-entry.entry-index c.entry-item.result c.args.flat.now c.loop-entry.flat c.loop-entry-test.true c.entry-item.is c.loop-entry.invariant.left
    (c.in-Err.ensures.refused is)
