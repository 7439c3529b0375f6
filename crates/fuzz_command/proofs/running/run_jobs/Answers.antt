use Rattle.std.proofs.Common.{◌<◌, length, sym, subst, List, take, get_or}
use Rattle.fuzz_command.specs.declared.job.Job.{Job}
use Rattle.fuzz_command.specs.Jobs.{Hands, handed_over, known_by}
use Rattle.fuzz_command.specs.Settings.{setting_of}
use Rattle.fuzz_command.proofs.Handing.{in_chunks}
use Rattle.fuzz_command.proofs.running.run_jobs.Goals as goal

pub returns-clause-handed : goal.returns-clause-handed
returns-clause-handed g c = λ index d inside.
    let s = setting_of c.args.setting.now in
    in_chunks s (known_by c.args.used) c.args.jobs.now c.for_each_chunk_mut.new.s c.share_of.result c.share_of.ensures
    (λ n begun k e there. let part = c.for_each_chunk_mut.ensures.chunks n begun in
    subst (λ (l : List Job). Hands s (handed_over (take k l)) (get_or l k e)) part.left
    (part.call.1 k e (subst (λ (l : List Job). k < length l) (sym part.argument_is) there))) index d inside
