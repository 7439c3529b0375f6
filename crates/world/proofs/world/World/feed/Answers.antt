use Rattle.std.proofs.Common.{arith}
use Rattle.world.proofs.All.{log_at, same_then}
use Rattle.world.proofs.Runs.{stays_there, stays_then}
use Rattle.world.proofs.Feeding.{taken_more}
use Rattle.world.proofs.world.World.feed.Goals as goal

pub loop-count-preserved : goal.loop-count-preserved
loop-count-preserved g c =
    let at = c.loop-count in
    let e = c.feed_byte.ensures in
    let after = c.feed_byte.new.self.tenants in
    record {
      inside = stays_there e.stays at.invariant.inside;
      logs = λ h. taken_more h c.args.g at.count c.args.bytes.now (log_at c.args.self.now.tenants h) (log_at at.self.tenants h) (log_at after h)
          (omega (arith, c.loop-count-test.true)) (at.invariant.logs h) (c.in-Ok.ensures.taken h);
      stays = stays_then at.invariant.stays e.stays;
      around = same_then at.invariant.around e.around;
    }

pub returns-in-Err-clause-stays : goal.returns-in-Err-clause-stays
returns-in-Err-clause-stays g c = stays_then c.loop-count.invariant.stays c.feed_byte.ensures.stays
