use Rattle.std.proofs.Common.{map, take}
use Rattle.std.specs.List.{flat_map}
use Rattle.script.specs.Courses.{block_events}
use Rattle.script.specs.Views.{block_view}
use Rattle.simulation.proofs.Playing.{SoFar}
use Rattle.simulation.proofs.blocks.play_blocks.Given as goal

-- what the blocks so far say is done
abbrev pub invariant-loop-block : goal.invariant-loop-block
invariant-loop-block g l =
    SoFar g.S.SwapStore l.numbered l.guests (g.S.SwapStore.slots l.fn.world.store) (g.R.Rng.stream l.fn.rng) l.fn.world (flat_map (block_events l.guests) (take l.block-index (map block_view l.blocks)))
    (g.R.Rng.stream l.rng) l.world (g.W.Write.contents l.fn.out) (g.W.Write.contents l.out)
