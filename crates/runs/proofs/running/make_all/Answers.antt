use Rattle.std.proofs.Common.{◌∙◌, arith}
use Rattle.runs.proofs.Covered.{covered_then}
use Rattle.runs.proofs.Ends.{steps_so_far}
use Rattle.runs.proofs.running.make_all.Goals as goal

pub returns-then-is_some-clause-state : goal.returns-then-is_some-clause-state
returns-then-is_some-clause-state g c =
    let s = c.steps-steps in
    steps_so_far c.loop-made.made s.result.0 (g.M.Runnable.state c.args.machine.now) (g.M.Runnable.state c.loop-made.machine) (g.M.Runnable.state s.new.self) c.loop-made.invariant.state s.ensures.state

pub returns-then-is_some-clause-covered : goal.returns-then-is_some-clause-covered
returns-then-is_some-clause-covered g c =
    let s = c.steps-steps in
    covered_then (g.M.Runnable.coverage c.args.machine.now) (g.M.Runnable.coverage c.loop-made.machine) (g.M.Runnable.coverage s.new.self) c.loop-made.made s.result.0
    (g.M.Runnable.state c.args.machine.now) (g.M.Runnable.state c.loop-made.machine) c.loop-made.invariant.covered c.loop-made.invariant.state s.ensures.covered

pub loop-made-preserved : goal.loop-made-preserved
loop-made-preserved g c =
    let s = c.steps-steps in
    record {
      few = omega (arith, s.ensures.few, c.loop-made.invariant.few, c.min.ensures);
      state = steps_so_far c.loop-made.made s.result.0 (g.M.Runnable.state c.args.machine.now) (g.M.Runnable.state c.loop-made.machine) (g.M.Runnable.state s.new.self) c.loop-made.invariant.state s.ensures.state;
      kept = s.ensures.kept ∙ c.loop-made.invariant.kept;
      covered = covered_then (g.M.Runnable.coverage c.args.machine.now) (g.M.Runnable.coverage c.loop-made.machine) (g.M.Runnable.coverage s.new.self) c.loop-made.made s.result.0
          (g.M.Runnable.state c.args.machine.now) (g.M.Runnable.state c.loop-made.machine) c.loop-made.invariant.covered c.loop-made.invariant.state s.ensures.covered;
    }
