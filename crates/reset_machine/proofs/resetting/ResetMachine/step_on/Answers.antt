use Rattle.std.proofs.Common.{◌∙◌, arith}
use Rattle.reset_machine.proofs.Stepping.{one_more_covered, one_step_more}
use Rattle.reset_machine.proofs.resetting.ResetMachine.step_on.Goals as goal

pub loop-is_new-preserved : goal.loop-is_new-preserved
loop-is_new-preserved c =
    let made = c.loop-is_new.made in
    let m = c.args.self.now.machine in
    let old = c.loop-is_new.self.machine in
    let next = c.step-is_new-in-loop-is_new in
    record {
      some = omega arith;
      few = omega (arith, c.if-made-count.true);
      machine = one_step_more made m old next.new.self.machine c.loop-is_new.invariant.machine next.ensures.machine;
      home = next.ensures.home ∙ c.loop-is_new.invariant.home;
      coverage = one_more_covered made m old c.args.self.now.coverage c.loop-is_new.self.coverage next.new.self.coverage c.loop-is_new.invariant.coverage
          c.loop-is_new.invariant.machine next.ensures.coverage;
    }
