use Rattle.std.proofs.Common.{◌≢◌, Bool, [], ap, sym, subst}
use Rattle.fuzz_command.specs.Inputs.{AreInputs}
use Rattle.fuzz_command.specs.Settings.{setting_of}
use Rattle.fuzz_command.specs.Writing.{Writes}
use Rattle.fuzz_command.specs.declared.fault.FuzzFault.{FuzzFault}
use Rattle.fuzz_command.specs.declared.fault.FuzzFault.TheVariants.{Output}
use Rattle.fuzz_command.proofs.Batches.{broken_in, end_lines, fault_lines, more_lines, written_begins}
use Rattle.fuzz_command.proofs.Trials.{SoFar, begun, broken_off, err_or, passed_err, when_not, when_stops}
use Rattle.fuzz_command.proofs.lines.fuzz_lines.Goals as goal
use Rattle.fuzz_command.proofs.lines.fuzz_lines.Goals.{then-stops, else-stops}

pub loop-init : goal.loop-init
loop-init g c = record { run = begun (setting_of c.args.setting.now) (g.B.Read.remaining c.args.input.now) (g.O.Write.contents c.args.out.now); reusable = tt }

pub returns-in_err-stops-clause-begun : goal.returns-in_err-stops-clause-begun
returns-in_err-stops-clause-begun g c =
    passed_err c.from_residual.result c.in_err-stops.field-0.0 (λ (f : FuzzFault). f ≢ Output) _ c.from_residual.ensures.1 (λ not_output.
    broken_in (setting_of c.args.setting.now) c.loop.number _ _ _ _ _ _ c.loop.stopped _ _ c.loop.invariant.run c.next_lines-jobs.ensures.lines (c.in_err-stops.ensures.begun not_output))

pub loop-preserved : goal.loop-preserved
loop-preserved g c =
    let s = setting_of c.args.setting.now in
    let had = g.B.Read.remaining c.args.input.now in
    let left' = g.B.Read.remaining c.next_lines-jobs.new.input in
    let known = g.O.Write.contents c.args.out.now in
    let known' = g.O.Write.contents c.try_jobs.new.out in
    let before = c.loop.stopped in
    let stops = c.in_ok-stops.stops in
    let next = more_lines s c.loop.number c.in-More.next had _ left' known _ known' before stops _ _ c.in-More.is c.loop.invariant.run c.next_lines-jobs.ensures.lines c.next_lines-jobs.ensures.numbers c.in_ok-stops.ensures.lines in
    record {
      run = elim c.if-stops.branch [
        | then-stops w ↦ subst (λ (b : Bool). SoFar s c.in-More.next had left' known known' b) (sym (when_stops before stops c.if-stops.stopped w.stopped-is w.if-stops.true)) next
        | else-stops w ↦ subst (λ (b : Bool). SoFar s c.in-More.next had left' known known' b) (sym (when_not before stops c.if-stops.stopped w.stopped-is w.if-stops.false)) next
      ];
      reusable = c.in_ok-stops.ensures.reusable;
    }

pub returns-in-End-clause-lines : goal.returns-in-End-clause-lines
returns-in-End-clause-lines g c =
    let s = setting_of c.args.setting.now in
    let had = g.B.Read.remaining c.args.input.now in
    let known = g.O.Write.contents c.args.out.now in
    let known' = g.O.Write.contents c.try_jobs.new.out in
    let before = c.loop.stopped in
    let stops = c.in_ok-stops.stops in
    let all = end_lines s c.loop.number had _ _ known _ known' before stops _ _ c.in-End.is c.loop.invariant.run c.next_lines-jobs.ensures.lines c.in_ok-stops.ensures.lines in
    elim c.if-stops.branch [
      | then-stops w ↦ subst (λ (b : Bool). Writes s (AreInputs [] had) known known' b) (sym (when_stops before stops c.if-stops.stopped w.stopped-is w.if-stops.true)) all
      | else-stops w ↦ subst (λ (b : Bool). Writes s (AreInputs [] had) known known' b) (sym (when_not before stops c.if-stops.stopped w.stopped-is w.if-stops.false)) all
    ]

pub returns-in-Fault-clause-broken : goal.returns-in-Fault-clause-broken
returns-in-Fault-clause-broken g c = λ n of.
    fault_lines (setting_of c.args.setting.now) c.loop.number n _ _ _ _ _ _ c.loop.stopped _ _ _ c.in-Fault.fault c.in-Fault.is (ap (err_or c.in-Fault.fault) of)
    c.loop.invariant.run c.next_lines-jobs.ensures.lines c.in_ok-stops.ensures.lines

pub returns-in-Fault-clause-begun : goal.returns-in-Fault-clause-begun
returns-in-Fault-clause-begun g c = λ not_output.
    broken_in (setting_of c.args.setting.now) c.loop.number _ _ _ _ _ _ c.loop.stopped _ _ c.loop.invariant.run c.next_lines-jobs.ensures.lines (written_begins _ _ _ _ _ c.in_ok-stops.ensures.lines)

pub returns-clause-begun : goal.returns-clause-begun
returns-clause-begun g c = λ not_output. broken_off _ _ _ _ _ _ _ c.loop.invariant.run
