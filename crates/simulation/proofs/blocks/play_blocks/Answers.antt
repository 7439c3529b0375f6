use Rattle.std.proofs.Common.{ℕ, ◌<◌, length, refl, subst, sym, arith}
use Rattle.script.specs.Courses.{block_events}
use Rattle.script.specs.Views.{block_view}
use Rattle.simulation.specs.Acts.{IsBlockFor}
use Rattle.simulation.proofs.Playing.{broken, can_at, next, part_more, parts}
use Rattle.simulation.proofs.blocks.play_blocks.Goals as goal

pub play_block-requires-clause-can : goal.play_block-requires-clause-can
play_block-requires-clause-can g c =
    let at = c.loop-block in
    let s = g.S.SwapStore in
    let xs = c.args.blocks.now in
    let inside : at.block-index < length xs = omega arith in
    subst (λ (n : ℕ). IsBlockFor c.args.guests n (block_view c.block-item.result)) (sym at.invariant.slots)
    (can_at block_view (block_events c.args.guests) xs at.block-index c.block-item.result inside c.block-item.is (IsBlockFor c.args.guests (s.slots c.args.world.now.store)) c.requires.can)

pub loop-block-preserved : goal.loop-block-preserved
loop-block-preserved g c =
    let at = c.loop-block in
    let s = g.S.SwapStore in
    let xs = c.args.blocks.now in
    let inside : at.block-index < length xs = omega arith in
    next s c.args.numbered c.args.guests (s.slots c.args.world.now.store) at.invariant.played at.invariant.guests at.invariant.slots c.in_ok-play_block.ensures refl at.invariant.slots
    (part_more block_view (block_events c.args.guests) xs at.block-index c.block-item.result inside c.block-item.is)

pub returns-in_err-play_block : goal.returns-in_err-play_block
returns-in_err-play_block g c =
    let at = c.loop-block in
    let s = g.S.SwapStore in
    let xs = c.args.blocks.now in
    let inside : at.block-index < length xs = omega arith in
    broken s c.args.numbered c.args.guests (s.slots c.args.world.now.store) at.invariant.played at.invariant.guests at.invariant.slots _ c.from_residual.result c.in_err-play_block.ensures refl at.invariant.slots
    (parts block_view (block_events c.args.guests) xs at.block-index c.block-item.result inside c.block-item.is) c.from_residual.ensures.1 c.requires.guests refl
