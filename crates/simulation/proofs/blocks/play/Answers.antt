use Rattle.simulation.proofs.Playing.{outcome_kept}
use Rattle.simulation.proofs.blocks.play.Goals as goal

pub returns-in-Ok : goal.returns-in-Ok
returns-in-Ok g c =
    outcome_kept g.S.SwapStore c.args.numbered c.args.guests _ (g.R.Rng.stream c.args.rng.now) c.args.world.now _ _ _ _ _ _ c.play_blocks-played.result c.play_blocks-played.ensures c.hand_on-shown.ensures.kept
