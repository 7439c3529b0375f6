use Rattle.std.proofs.Common.{◌∙◌, arith, ap, ◌+◌}
use Rattle.runs.proofs.InputFed.{fed_step, fed_waits}
use Rattle.runs.proofs.feeding.feed_all.Goals as goal

pub loop-byte-preserved : goal.loop-byte-preserved
loop-byte-preserved g c = record {
  taken = ap (λ n. n + 1) c.loop-byte.invariant.taken;
  few = omega (arith, c.loop-byte-test.true);
  state = fed_step c.loop-byte.byte-index c.args.bytes.now _ _ _ (omega (arith, c.loop-byte-test.true)) c.loop-byte.invariant.state c.in_default.ensures.fed;
  kept = c.in_default.ensures.kept ∙ c.loop-byte.invariant.kept;
  covered = c.in_default.ensures.covered ∙ c.loop-byte.invariant.covered;
  room = omega (arith, fed_waits _ _ _ c.in_default.ensures.fed, c.loop-byte.invariant.room, c.loop-byte-test.true);
}
