use Rattle.std.proofs.Common.{◌<◌, arith, length, subst}
use Rattle.std.proofs.lemmas.List.{get_or_default}
use Rattle.fuzz_command.specs.declared.job.Job.{Job}
use Rattle.fuzz_command.specs.Jobs.{IsRunOf, known_by}
use Rattle.fuzz_command.specs.Settings.{setting_of}
use Rattle.fuzz_command.proofs.Batches.{share_more}
use Rattle.fuzz_command.proofs.Handing.{hand_more, known_more}
use Rattle.fuzz_command.proofs.running.run_share.Goals as goal

pub loop-index-preserved : goal.loop-index-preserved
loop-index-preserved c =
    let s = setting_of c.args.setting.now in
    let run = c.run_job-machine in
    let job = c.index-share-index.result in
    let known = known_by c.args.used in
    let before = known_by c.loop-index.machine in
    let inside : c.loop-index.index < length c.loop-index.share = omega (arith, c.loop-index-test.true) in
    record {
      share = share_more s c.args.share.now c.loop-index.share c.loop-index.index run.new.job c.loop-index.invariant.share inside
          (λ d. subst (λ (j : Job). IsRunOf s j run.new.job) (get_or_default c.loop-index.share c.loop-index.index job d inside) run.ensures.run);
      handed = hand_more s known before c.loop-index.share c.loop-index.index run.new.job c.loop-index.invariant.handed inside c.loop-index.invariant.known run.ensures.handed;
      known = known_more known before (known_by run.result) c.loop-index.share c.loop-index.index run.new.job inside c.loop-index.invariant.known run.ensures.known;
      reusable = run.ensures.reusable;
    }
