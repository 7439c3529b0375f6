use Rattle.std.proofs.Common.{◌≢◌, ◌+◌, Bool, sym, subst}
use Rattle.std.proofs.lemmas.List.Elements.{All-get_or}
use Rattle.fuzz_command.specs.declared.fault.FuzzFault.{FuzzFault}
use Rattle.fuzz_command.specs.declared.fault.FuzzFault.TheVariants.{Output}
use Rattle.fuzz_command.specs.declared.job.Job.{Job}
use Rattle.fuzz_command.specs.Jobs.{BeginJobs, HasRun, job_input, job_name}
use Rattle.fuzz_command.specs.Writing.{Begins, WritesLine}
use Rattle.fuzz_command.proofs.Batches.{JobsSoFar, all_written, first_written, next_written, no_jobs}
use Rattle.fuzz_command.proofs.Trials.{passed_err, when_not, when_stops}
use Rattle.fuzz_command.proofs.writing.write_jobs.Goals as goal
use Rattle.fuzz_command.proofs.writing.write_jobs.Goals.{then-stops, else-stops}

pub loop-job-init : goal.loop-job-init
loop-job-init g c = λ s are. no_jobs s c.args.jobs.now (g.O.Write.contents c.args.out.now)

pub returns-in_err-stops-clause-begun : goal.returns-in_err-stops-clause-begun
returns-in_err-stops-clause-begun g c = λ s are.
    passed_err c.from_residual.result c.in_err-stops.field-0.0 (λ (f : FuzzFault). f ≢ Output) _ c.from_residual.ensures.1 (λ not_output.
    subst (λ (o : g.row.O.Denot). Begins s (BeginJobs c.args.jobs.now) (g.O.Write.contents c.args.out.now) (g.O.Write.contents o))
    (sym (c.in_err-stops.ensures.unwritten not_output)) (first_written _ _ _ _ _ _ (c.loop-job.invariant s are)))

pub loop-job-preserved : goal.loop-job-preserved
loop-job-preserved g c = λ s are.
    let jobs = c.args.jobs.now in
    let job = c.job-item.result in
    let known = g.O.Write.contents c.args.out.now in
    let mid = g.O.Write.contents c.loop-job.out in
    let known' = g.O.Write.contents c.write_job.new.out in
    let before = c.loop-job.stopped in
    let stops = c.in_ok-stops.stops in
    let has : HasRun s job = subst (λ (j : Job). HasRun s j) (sym c.job-item.is) (All-get_or (HasRun s) jobs c.loop-job.job-index job c.loop-job-test.true are) in
    let line = subst (λ (j : Job). WritesLine s (job_name j) (job_input j) mid known' stops) c.job-item.is (c.in_ok-stops.ensures.line s has) in
    let next = next_written s jobs c.loop-job.job-index job known mid known' before stops (c.loop-job.invariant s are) c.loop-job-test.true line in
    elim c.if-stops.branch [
      | then-stops w ↦ subst (λ (b : Bool). JobsSoFar s jobs (c.loop-job.job-index + 1) known known' b) (sym (when_stops before stops c.if-stops.stopped w.stopped-is w.if-stops.true)) next
      | else-stops w ↦ subst (λ (b : Bool). JobsSoFar s jobs (c.loop-job.job-index + 1) known known' b) (sym (when_not before stops c.if-stops.stopped w.stopped-is w.if-stops.false)) next
    ]

pub returns-clause-lines : goal.returns-clause-lines
returns-clause-lines g c = λ s are. all_written _ _ _ _ _ _ (c.loop-job.invariant s are) c.loop-job-test.false
