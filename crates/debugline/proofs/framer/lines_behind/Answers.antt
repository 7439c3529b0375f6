use Rattle.std.proofs.Common.{◌++◌, map, ap, refl, ◌∙◌, arith}
use Rattle.debugline.specs.Lines.{Text}
use Rattle.debugline.specs.Views.{line_view}
use Rattle.debugline.proofs.Pieces.{ended_here, goes_on_here}
use Rattle.debugline.proofs.framer.lines_behind.Goals as goal
use Rattle.debugline.proofs.framer.lines_behind.Goals.{then-byte-eq10+in_ok-push, else-byte-eq10+in_ok-push-2}

pub loop-byte-preserved : goal.loop-byte-preserved
loop-byte-preserved c = λ stream before starts.
    let so_far = c.loop-byte.invariant stream before starts in
    elim c.if-byte-eq10.branch [
      | then-byte-eq10+in_ok-push w ↦
          ended_here stream c.args.piece.now c.loop-byte.byte-index before c.loop-byte.lines.items c.if-byte-eq10.lines.items c.loop-byte.rest (line_view c.if-byte-eq10.rest) (omega arith) w.if-byte-eq10.true
          (rw (w.lines-is, w.in_ok-push.ensures.items, w.replace.ensures.value) refl)
          (ap line_view (w.rest-is ∙ w.replace.ensures.after) ∙ ap Text w.new.ensures.items)
          so_far
      | else-byte-eq10+in_ok-push-2 w ↦
          goes_on_here stream c.args.piece.now c.loop-byte.byte-index (before ++ map line_view c.if-byte-eq10.lines.items) (line_view c.loop-byte.rest) (line_view c.if-byte-eq10.rest) (omega arith) w.if-byte-eq10.false
          (ap line_view w.rest-is ∙ w.in_ok-push-2.ensures)
          (rw w.lines-is so_far)
    ]
