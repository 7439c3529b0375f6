use Rattle.std.proofs.Common.{map}
use Rattle.script.specs.Courses.{lines_events}
use Rattle.script.specs.Views.{line_view}
use Rattle.simulation.proofs.Playing.{SoFar, turns}
use Rattle.simulation.proofs.blocks.play_block.Given as goal

-- so many turns are done
abbrev pub invariant-loop-turn : goal.invariant-loop-turn
invariant-loop-turn g l =
    SoFar g.S.SwapStore l.numbered l.guests (g.S.SwapStore.slots l.fn.world.store) (g.R.Rng.stream l.fn.rng) l.fn.world (turns (lines_events l.guests (map line_view l.block.lines.items)) 0 l.turn)
    (g.R.Rng.stream l.rng) l.world (g.W.Write.contents l.fn.out) (g.W.Write.contents l.out)
