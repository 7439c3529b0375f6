use Rattle.std.proofs.Common.{ℕ, ◌<◌, length, refl, subst, sym, arith}
use Rattle.script.specs.Courses.{line_events}
use Rattle.script.specs.Views.{line_view}
use Rattle.simulation.specs.Acts.{IsLineFor}
use Rattle.simulation.proofs.Playing.{broken, can_at, next, part_more, parts}
use Rattle.simulation.proofs.blocks.play_lines.Goals as goal

pub play_line-requires-clause-can : goal.play_line-requires-clause-can
play_line-requires-clause-can g c =
    let at = c.loop-line in
    let s = g.S.SwapStore in
    let xs = c.args.lines.now in
    let inside : at.line-index < length xs = omega arith in
    subst (λ (n : ℕ). IsLineFor c.args.guests n (line_view c.line-item.result)) (sym at.invariant.slots)
    (can_at line_view (line_events c.args.guests) xs at.line-index c.line-item.result inside c.line-item.is (IsLineFor c.args.guests (s.slots c.args.world.now.store)) c.requires.can)

pub loop-line-preserved : goal.loop-line-preserved
loop-line-preserved g c =
    let at = c.loop-line in
    let s = g.S.SwapStore in
    let xs = c.args.lines.now in
    let inside : at.line-index < length xs = omega arith in
    next s c.args.numbered c.args.guests (s.slots c.args.world.now.store) at.invariant.played at.invariant.guests at.invariant.slots c.in_ok-play_line.ensures refl at.invariant.slots
    (part_more line_view (line_events c.args.guests) xs at.line-index c.line-item.result inside c.line-item.is)

pub returns-in_err-play_line : goal.returns-in_err-play_line
returns-in_err-play_line g c =
    let at = c.loop-line in
    let s = g.S.SwapStore in
    let xs = c.args.lines.now in
    let inside : at.line-index < length xs = omega arith in
    broken s c.args.numbered c.args.guests (s.slots c.args.world.now.store) at.invariant.played at.invariant.guests at.invariant.slots _ c.from_residual.result c.in_err-play_line.ensures refl at.invariant.slots
    (parts line_view (line_events c.args.guests) xs at.line-index c.line-item.result inside c.line-item.is) c.from_residual.ensures.1 c.requires.guests refl
