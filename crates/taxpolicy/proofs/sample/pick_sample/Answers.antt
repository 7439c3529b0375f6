use Rattle.std.proofs.Common.{length-set, arith}
use Rattle.taxpolicy.proofs.Draws.{word_more, draw_more}
use Rattle.taxpolicy.proofs.sample.pick_sample.Goals as goal

pub loop-draw-preserved : goal.loop-draw-preserved
loop-draw-preserved g c =
    let so_far = c.loop-draw.invariant in
    record {
      size = simp length-set so_far.size;
      draws = draw_more _ _ _ _ _ _ _ (omega (arith, so_far.size)) so_far.rest c.next_u32.ensures so_far.draws;
      rest = word_more _ _ _ _ _ so_far.rest c.next_u32.ensures;
    }
