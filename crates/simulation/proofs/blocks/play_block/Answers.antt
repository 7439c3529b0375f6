use Rattle.std.proofs.Common.{◌∙◌, ◌<◌, List, ◌++◌, ap, map, refl, sym, arith}
use Rattle.script.specs.declared.action.ActionLine.{ActionLine}
use Rattle.script.specs.Courses.{lines_events}
use Rattle.script.specs.Views.{line_view}
use Rattle.simulation.proofs.Playing.{broken, next, turn_more, turns, turns_left}
use Rattle.simulation.proofs.blocks.play_block.Goals as goal

pub loop-turn-preserved : goal.loop-turn-preserved
loop-turn-preserved g c =
    let at = c.loop-turn in
    let s = g.S.SwapStore in
    let es = lines_events c.args.guests (map line_view c.args.block.now.lines.items) in
    next s c.args.numbered c.args.guests (s.slots c.args.world.now.store) at.invariant.played at.invariant.guests at.invariant.slots c.in_ok-play_lines.ensures refl at.invariant.slots
    (turn_more es at.turn ∙ ap (λ (l : List ActionLine). turns es 0 at.turn ++ lines_events c.args.guests (map line_view l)) (sym c.deref.ensures.value))

pub returns-in_err-play_lines : goal.returns-in_err-play_lines
returns-in_err-play_lines g c =
    let at = c.loop-turn in
    let s = g.S.SwapStore in
    let es = lines_events c.args.guests (map line_view c.args.block.now.lines.items) in
    let few : at.turn < c.args.block.now.times = omega arith in
    let left = turns_left es c.args.block.now.times at.turn few in
    broken s c.args.numbered c.args.guests (s.slots c.args.world.now.store) at.invariant.played at.invariant.guests at.invariant.slots _ c.from_residual.result c.in_err-play_lines.ensures refl at.invariant.slots
    (left.1 ∙ ap (λ (l : List ActionLine). (turns es 0 at.turn ++ lines_events c.args.guests (map line_view l)) ++ left.0) (sym c.deref.ensures.value)) c.from_residual.ensures.1 c.requires.guests refl
