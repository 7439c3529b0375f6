use Rattle.std.proofs.Common.{map, take}
use Rattle.std.specs.List.{flat_map}
use Rattle.script.specs.Courses.{line_events}
use Rattle.script.specs.Views.{line_view}
use Rattle.simulation.proofs.Playing.{SoFar}
use Rattle.simulation.proofs.blocks.play_lines.Given as goal

-- what the lines so far say is done
abbrev pub invariant-loop-line : goal.invariant-loop-line
invariant-loop-line g l =
    SoFar g.S.SwapStore l.numbered l.guests (g.S.SwapStore.slots l.fn.world.store) (g.R.Rng.stream l.fn.rng) l.fn.world (flat_map (line_events l.guests) (take l.line-index (map line_view l.lines)))
    (g.R.Rng.stream l.rng) l.world (g.W.Write.contents l.fn.out) (g.W.Write.contents l.out)
