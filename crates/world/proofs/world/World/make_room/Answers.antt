use Rattle.std.proofs.Common.{◌∙◌, arith}
use Rattle.world.proofs.All.{around_then, moment_of, nil_from_length, pages_then, spared_then}
use Rattle.world.proofs.Choices.{booked_where, one_more_evicted}
use Rattle.world.proofs.world.World.make_room.Goals as goal

pub loop-alloc-preserved : goal.loop-alloc-preserved
loop-alloc-preserved g c =
    let w = c.args.self.now in
    let at = c.loop-alloc.invariant in
    let mid = c.loop-alloc.self in
    let w' = c.evict_sparing.new.self in
    let e = c.evict_sparing.ensures in
    let ok = c.in_ok-evict_sparing.ensures in
    record {
      moves = pages_then w.tenants mid.tenants w'.tenants at.moves e.moves;
      spared = spared_then c.args.spared.now w.tenants mid.tenants w'.tenants at.spared e.spared;
      evicted = one_more_evicted at.evicted
          (record {
            full = nil_from_length mid.pool.free (omega (arith, c.free.ensures, c.loop-alloc-test.true));
            policy = ok.policy;
            rest = ok.rest;
            booked = booked_where (around_then at.around e.around) (moment_of (g.R.Rng.stream c.evict_sparing.new.rng) w') c.is_sound.ensures.books;
          });
      failed = ok.no_failure ∙ at.failed;
      around = around_then at.around e.around;
    }
