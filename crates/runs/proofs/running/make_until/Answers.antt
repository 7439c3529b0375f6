use Rattle.std.proofs.Common.{ℕ, ◌≡◌, ◌<◌, ◌+◌, ◌∙◌, sym, None, rules, arith}
use Rattle.runs.specs.Endings.{ending_after}
use Rattle.runs.proofs.Covered.{covered_then}
use Rattle.runs.proofs.Ends.{none_in_pieces, ends_in_pieces, steps_so_far}
use Rattle.runs.proofs.running.make_until.Goals as goal

pub returns-then-is_some-clause-state : goal.returns-then-is_some-clause-state
returns-then-is_some-clause-state g c =
    let piece = c.next_states-piece in
    steps_so_far c.loop-made.made piece.result.steps (g.M.Runnable.state c.args.machine.now) (g.M.Runnable.state c.loop-made.machine) (g.M.Runnable.state piece.new.machine)
    c.loop-made.invariant.state piece.ensures.state

pub returns-then-is_some-clause-covered : goal.returns-then-is_some-clause-covered
returns-then-is_some-clause-covered g c =
    let piece = c.next_states-piece in
    covered_then (g.M.Runnable.coverage c.args.machine.now) (g.M.Runnable.coverage c.loop-made.machine) (g.M.Runnable.coverage piece.new.machine) c.loop-made.made piece.result.steps
    (g.M.Runnable.state c.args.machine.now) (g.M.Runnable.state c.loop-made.machine) c.loop-made.invariant.covered c.loop-made.invariant.state piece.ensures.covered

pub returns-then-is_some-clause-first : goal.returns-then-is_some-clause-first
returns-then-is_some-clause-first g c =
    let first = g.M.Runnable.state c.args.machine.now in
    let now = g.M.Runnable.state c.loop-made.machine in
    let piece = c.next_states-piece in
    let inv = c.loop-made.invariant in
    let nowhere : c.loop-made.ending ≡ None = search rules in
    let before : (k : ℕ) → k < c.loop-made.made + piece.result.steps → ending_after c.args.until.now first k ≡ None =
    none_in_pieces c.args.until.now first now c.loop-made.made piece.result.steps inv.state inv.none_before (sym inv.here ∙ nowhere) piece.ensures.none_before in
    search rules

pub loop-made-preserved-then-made-told : goal.loop-made-preserved-then-made-told
loop-made-preserved-then-made-told g c =
    let first = g.M.Runnable.state c.args.machine.now in
    let now = g.M.Runnable.state c.loop-made.machine in
    let piece = c.next_states-piece in
    let made = c.loop-made.made in
    let until = c.args.until.now in
    let inv = c.loop-made.invariant in
    let nowhere : c.loop-made.ending ≡ None = search rules in
    let on : piece.result.stop ≡ None = search rules in
    record {
      few = omega (arith, piece.ensures.few, c.loop-made-test.true);
      state = steps_so_far made piece.result.steps first now (g.M.Runnable.state piece.new.machine) inv.state piece.ensures.state;
      kept = piece.ensures.kept ∙ inv.kept;
      covered = covered_then (g.M.Runnable.coverage c.args.machine.now) (g.M.Runnable.coverage c.loop-made.machine) (g.M.Runnable.coverage piece.new.machine) c.loop-made.made piece.result.steps
          (g.M.Runnable.state c.args.machine.now) (g.M.Runnable.state c.loop-made.machine) c.loop-made.invariant.covered c.loop-made.invariant.state piece.ensures.covered;
      none_before = none_in_pieces until first now made piece.result.steps inv.state inv.none_before (sym inv.here ∙ nowhere) piece.ensures.none_before;
      here = piece.ensures.there on ∙ ends_in_pieces until first now made piece.result.steps inv.state (piece.ensures.some on);
    }

pub loop-made-preserved : goal.loop-made-preserved
loop-made-preserved g c =
    let first = g.M.Runnable.state c.args.machine.now in
    let now = g.M.Runnable.state c.loop-made.machine in
    let piece = c.next_states-piece in
    let made = c.loop-made.made in
    let until = c.args.until.now in
    let inv = c.loop-made.invariant in
    let nowhere : c.loop-made.ending ≡ None = search rules in
    let on : piece.result.stop ≡ None = search rules in
    record {
      few = omega (arith, piece.ensures.few, c.loop-made-test.true);
      state = steps_so_far made piece.result.steps first now (g.M.Runnable.state piece.new.machine) inv.state piece.ensures.state;
      kept = piece.ensures.kept ∙ inv.kept;
      covered = covered_then (g.M.Runnable.coverage c.args.machine.now) (g.M.Runnable.coverage c.loop-made.machine) (g.M.Runnable.coverage piece.new.machine) c.loop-made.made piece.result.steps
          (g.M.Runnable.state c.args.machine.now) (g.M.Runnable.state c.loop-made.machine) c.loop-made.invariant.covered c.loop-made.invariant.state piece.ensures.covered;
      none_before = none_in_pieces until first now made piece.result.steps inv.state inv.none_before (sym inv.here ∙ nowhere) piece.ensures.none_before;
      here = piece.ensures.there on ∙ ends_in_pieces until first now made piece.result.steps inv.state (piece.ensures.some on);
    }
