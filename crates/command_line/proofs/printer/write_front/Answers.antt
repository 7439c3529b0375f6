use Rattle.std.proofs.Common.{◌++◌, ◌∙◌, ap, sym, take}
use Rattle.std.proofs.KnownBytes.{Appends-trans}
use Rattle.command_line.proofs.Printing.{appends_kept, front_moves}
use Rattle.command_line.proofs.printer.write_front.Goals.{in-Ok, in-Err}
use Rattle.command_line.proofs.printer.write_front.Goals as goal

pub loop-preserved : goal.loop-preserved
loop-preserved g c =
    let (done, split, appended) = c.loop.invariant in
    let rest = c.loop.rest.now in
    elim c.match-write.branch [
      | in-Ok w ↦
          let n = w.in-Ok.count in
          (done ++ take n rest, front_moves _ done rest n split ∙ ap (λ r. (done ++ take n rest) ++ r.now) (sym w.rest-is), Appends-trans _ _ _ _ _ appended w.in-Ok.ensures.bytes)
      | in-Err w ↦ (done, split ∙ ap (λ r. done ++ r.now) (sym w.rest-is), appends_kept _ _ _ _ appended w.in-Err.ensures.bytes)
    ]
