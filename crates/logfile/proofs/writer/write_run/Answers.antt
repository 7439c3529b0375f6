use Rattle.std.proofs.Common.{arith}
use Rattle.std.proofs.lemmas.Result.{on_ok_weaker}
use Rattle.logfile.proofs.Splitting.{run_more, run_last, run_entries-each}
use Rattle.logfile.proofs.writer.write_run.Goals as goal

pub loop-left-preserved : goal.loop-left-preserved
loop-left-preserved c = record {
  some = omega arith;
  told = run_more c.args.seat c.loop-left.left _ _ _ (omega arith) c.in_ok-write_steps.ensures.bytes c.loop-left.invariant.told;
}

pub returns-clause-bytes : goal.returns-clause-bytes
returns-clause-bytes c =
    on_ok_weaker c.write_steps-2.result (λ written. run_last c.args.seat c.loop-left.left _ _ _ c.loop-left.invariant.some (omega arith) written c.loop-left.invariant.told) c.write_steps-2.ensures.bytes

pub returns-clause-each : goal.returns-clause-each
returns-clause-each c =
    let each = run_entries-each c.args.seat c.args.count c.write_steps-2.ensures.seat c.requires in
    on_ok_weaker c.write_steps-2.result (λ _. each) c.write_steps-2.ensures.bytes
