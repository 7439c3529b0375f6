use Rattle.std.proofs.Common.{◌≢◌, Bool, subst, sym}
use Rattle.fuzz_command.specs.Inputs.{AreFiles}
use Rattle.fuzz_command.specs.Settings.{setting_of}
use Rattle.fuzz_command.specs.Writing.{Writes}
use Rattle.fuzz_command.specs.declared.fault.FuzzFault.{FuzzFault}
use Rattle.fuzz_command.specs.declared.fault.FuzzFault.TheVariants.{Output}
use Rattle.fuzz_command.proofs.Batches.{begun_files, last_files, more_files, more_inside, written_begins}
use Rattle.fuzz_command.proofs.Trials.{FilesSoFar, passed_err, when_not, when_stops}
use Rattle.fuzz_command.proofs.files.fuzz_files.Goals as goal
use Rattle.fuzz_command.proofs.files.fuzz_files.Goals.{then-stops, else-stops}

pub returns-in_err-stops-clause-begun : goal.returns-in_err-stops-clause-begun
returns-in_err-stops-clause-begun g c =
    passed_err c.from_residual.result c.in_err-stops.field-0.0 (λ (f : FuzzFault). f ≢ Output) _ c.from_residual.ensures.1 (λ not_output.
    begun_files (setting_of c.args.setting.now) c.args.files.now c.loop-first.first _ _ _ c.loop-first.stopped _ _ c.loop-first.invariant.run c.next_files-jobs.ensures
    (c.in_err-stops.ensures.begun not_output))

pub loop-first-preserved : goal.loop-first-preserved
loop-first-preserved g c =
    let s = setting_of c.args.setting.now in
    let known = g.O.Write.contents c.args.out.now in
    let known' = g.O.Write.contents c.try_jobs.new.out in
    let before = c.loop-first.stopped in
    let stops = c.in_ok-stops.stops in
    let next = more_files s c.args.files.now c.loop-first.first c.in-More.next known _ known' before stops _ _ c.in-More.is c.loop-first.invariant.run c.next_files-jobs.ensures c.in_ok-stops.ensures.lines in
    record {
      inside = (more_inside c.args.files.now c.loop-first.first c.in-More.next _ _ c.in-More.is c.next_files-jobs.ensures).1;
      run = elim c.if-stops.branch [
        | then-stops w ↦ subst (λ (b : Bool). FilesSoFar s c.args.files.now c.in-More.next known known' b) (sym (when_stops before stops c.if-stops.stopped w.stopped-is w.if-stops.true)) next
        | else-stops w ↦ subst (λ (b : Bool). FilesSoFar s c.args.files.now c.in-More.next known known' b) (sym (when_not before stops c.if-stops.stopped w.stopped-is w.if-stops.false)) next
      ];
      reusable = c.in_ok-stops.ensures.reusable;
    }

pub returns-in-End-clause-lines : goal.returns-in-End-clause-lines
returns-in-End-clause-lines g c =
    let s = setting_of c.args.setting.now in
    let known = g.O.Write.contents c.args.out.now in
    let known' = g.O.Write.contents c.try_jobs.new.out in
    let before = c.loop-first.stopped in
    let stops = c.in_ok-stops.stops in
    let all = last_files s c.args.files.now c.loop-first.first known _ known' before stops _ _ c.in-End.is c.loop-first.invariant.run c.next_files-jobs.ensures c.in_ok-stops.ensures.lines in
    elim c.if-stops.branch [
      | then-stops w ↦ subst (λ (b : Bool). Writes s (AreFiles c.args.files.now) known known' b) (sym (when_stops before stops c.if-stops.stopped w.stopped-is w.if-stops.true)) all
      | else-stops w ↦ subst (λ (b : Bool). Writes s (AreFiles c.args.files.now) known known' b) (sym (when_not before stops c.if-stops.stopped w.stopped-is w.if-stops.false)) all
    ]

pub returns-in-Fault-clause-begun : goal.returns-in-Fault-clause-begun
returns-in-Fault-clause-begun g c = λ not_output.
    begun_files (setting_of c.args.setting.now) c.args.files.now c.loop-first.first _ _ _ c.loop-first.stopped _ _ c.loop-first.invariant.run c.next_files-jobs.ensures
    (written_begins _ _ _ _ _ c.in_ok-stops.ensures.lines)
