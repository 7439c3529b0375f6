use Rattle.fuzz_command.specs.Settings.{setting_of}
use Rattle.fuzz_command.proofs.Batches.{all_run, begun_before, written_before}
use Rattle.fuzz_command.proofs.Trials.{each_error, each_ok}
use Rattle.fuzz_command.proofs.writing.run_and_write.Goals as goal

pub returns-clause-lines : goal.returns-clause-lines
returns-clause-lines g c =
    let s = setting_of c.args.setting.now in
    let are = all_run s c.args.jobs.now c.run_jobs.new.jobs c.run_jobs.ensures.count c.run_jobs.ensures.run in
    each_ok c.write_jobs.result _ _ (c.write_jobs.ensures.lines s are.run) (λ stopped is. written_before s _ _ _ _ stopped are is)

pub returns-clause-begun : goal.returns-clause-begun
returns-clause-begun g c =
    let s = setting_of c.args.setting.now in
    let are = all_run s c.args.jobs.now c.run_jobs.new.jobs c.run_jobs.ensures.count c.run_jobs.ensures.run in
    each_error c.write_jobs.result _ _ _ (c.write_jobs.ensures.begun s are.run) (λ is. begun_before s _ _ _ _ are is)
