use Rattle.std.proofs.Common.{◌+◌, ◌∙◌, arith}
use Rattle.runs.proofs.Covered.{covered_then}
use Rattle.reset_machine.proofs.Stepping.{more_steps}
use Rattle.reset_machine.proofs.resetting.ResetMachine.many_steps.Goals as goal

pub loop-made-preserved-then-made-count : goal.loop-made-preserved-then-made-count
loop-made-preserved-then-made-count c =
    let made = c.loop-made.made in
    let more = c.run_quietly-made.result in
    let m = c.args.self.now.machine in
    let mid = c.run_quietly-made.new.self.machine in
    let run = more_steps made more m c.loop-made.self.machine mid c.loop-made.invariant.machine c.run_quietly-made.ensures.machine in
    let reached = covered_then c.args.self.now.coverage c.loop-made.self.coverage c.run_quietly-made.new.self.coverage made more m c.loop-made.self.machine
    c.loop-made.invariant.coverage c.loop-made.invariant.machine c.run_quietly-made.ensures.coverage in
    record {
      few = omega (arith, c.step_on-made.ensures.few);
      machine = more_steps (made + more) c.step_on-made.result m mid c.step_on-made.new.self.machine run c.step_on-made.ensures.machine;
      home = c.step_on-made.ensures.home ∙ c.run_quietly-made.ensures.home ∙ c.loop-made.invariant.home;
      coverage = covered_then c.args.self.now.coverage c.run_quietly-made.new.self.coverage c.step_on-made.new.self.coverage (made + more) c.step_on-made.result m mid
          reached run c.step_on-made.ensures.coverage;
    }

pub loop-made-preserved : goal.loop-made-preserved
loop-made-preserved c =
    record {
      few = omega arith;
      machine = more_steps c.loop-made.made c.run_quietly-made.result c.args.self.now.machine c.loop-made.self.machine c.run_quietly-made.new.self.machine
          c.loop-made.invariant.machine c.run_quietly-made.ensures.machine;
      home = c.run_quietly-made.ensures.home ∙ c.loop-made.invariant.home;
      coverage = covered_then c.args.self.now.coverage c.loop-made.self.coverage c.run_quietly-made.new.self.coverage c.loop-made.made c.run_quietly-made.result
          c.args.self.now.machine c.loop-made.self.machine c.loop-made.invariant.coverage c.loop-made.invariant.machine c.run_quietly-made.ensures.coverage;
    }
