use Rattle.std.proofs.Common.{◌≢◌, [], length, arith, refl, sym, ap, ◌∙◌}
use Rattle.std.proofs.lemmas.Bool.{eqb-false}
use Rattle.std.proofs.lemmas.Result.{err_from_is_err_and}
use Rattle.logfile.proofs.Loops.{read_none, read_more, read_less, read_refused}
use Rattle.logfile.proofs.reader.read_entries.Goals as goal

pub loop-rest-init : goal.loop-rest-init
loop-rest-init c = read_none c.args.file.now _ c.new-entries.result.items (λ i. omega (arith, c.type_inv.file i)) c.new-entries.ensures.items refl

pub returns-in_err-entry-clause-refused : goal.returns-in_err-entry-clause-refused
returns-in_err-entry-clause-refused c =
    let some : c.loop-rest.rest.now ≢ [] = λ e. eqb-false (length c.loop-rest.rest.now) 0 (sym c.is_empty.ensures ∙ c.loop-rest-test.true) (ap length e) in
    let p = err_from_is_err_and c.from_residual.result c.from_residual.ensures.1 in
    rw (p.1, p.2) (read_refused c.args.file.now c.loop-rest.rest.now c.loop-rest.entries.items c.in_err-entry.field-0.0 c.loop-rest.invariant some c.in_err-entry.ensures)

pub loop-rest-smaller : goal.loop-rest-smaller
loop-rest-smaller c = read_less _ _ _ c.loop-rest.invariant.fits c.in_ok-entry.ensures

pub loop-rest-preserved : goal.loop-rest-preserved
loop-rest-preserved c = read_more _ _ _ _ _ _ c.loop-rest.invariant c.in_ok-entry.ensures c.in_ok-push.ensures.items
