use Rattle.std.proofs.Common.{◌+◌, ◌<◌, ◌≤◌, None, false, length, get_or, ◌∙◌, arith}
use Rattle.world.proofs.All.{Action, LosesPages, any_default, around_then, moment_of, some_tenant}
use Rattle.world.proofs.Choices.{then_outs, then_end, up_to, end_up_to}
use Rattle.world.proofs.Turning.{next_count, others_same, fewer_more, cut_short, moves_more, on_err}
use Rattle.world.proofs.world.World.swap_out_each.Goals as goal

pub returns-in_err-swap_out_pages-clause-moves : goal.returns-in_err-swap_out_pages-clause-moves
returns-in_err-swap_out_pages-clause-moves w c =
    let at = c.loop-g in
    let inside : at.g < length at.self.tenants = omega (arith, c.loop-g-test.true, at.auto.g-end, c.requires.count, at.invariant.count) in
    let e = c.in_err-swap_out_pages.ensures.fewer in
    moves_more at.g c.args.self.now.tenants at.self.tenants c.swap_out_pages.new.self.tenants e.0 inside at.invariant.moves e.2

pub returns-in_err-swap_out_pages-clause-short : goal.returns-in_err-swap_out_pages-clause-short
returns-in_err-swap_out_pages-clause-short w c =
    let at = c.loop-g in
    let acts = c.args.actions.now in
    let none : Action = record { balloon = None; swap_out = 0; blocked = false } in
    let below : at.g < length acts = omega (arith, c.loop-g-test.true, at.auto.g-end) in
    let inside : at.g < length c.args.self.now.tenants = omega (arith, below, c.requires.count) in
    let e = c.in_err-swap_out_pages.ensures.fewer in
    on_err c.from_residual.result
    (cut_short at.g e.0 acts c.args.self.now.tenants at.self.tenants c.swap_out_pages.new.self.tenants (get_or acts at.g none) inside at.invariant.count (λ d. any_default acts at.g d none below) e.1 e.2
    at.invariant.others at.invariant.fewer)

pub loop-g-preserved : goal.loop-g-preserved
loop-g-preserved w c =
    let at = c.loop-g in
    let so = at.invariant in
    let k = at.g in
    let old = c.args.self.now.tenants in
    let mid = at.self.tenants in
    let ts' = c.swap_out_pages.new.self.tenants in
    let acts = c.args.actions.now in
    let none : Action = record { balloon = None; swap_out = 0; blocked = false } in
    let action = get_or acts k none in
    let below : k < length acts = omega (arith, c.loop-g-test.true, at.auto.g-end) in
    let inside : k < length old = omega (arith, below, c.requires.count) in
    let loses = c.in_ok-swap_out_pages.ensures.loses in
    let s = w.S.SwapStore in
    let v = c.args.self.now in
    record {
      count = next_count k old mid ts' (LosesPages action.swap_out) inside so.count so.others loses (some_tenant old k inside);
      moves = moves_more k old mid ts' action.swap_out (omega (arith, inside, so.count)) so.moves loses;
      fewer = fewer_more k acts old mid ts' action inside so.count (λ d. any_default acts k d none below) loses so.others so.fewer;
      others = others_same k old mid ts' (LosesPages action.swap_out) inside so.count so.others loses;
      outs = up_to v.frames (s.slots v.store) 0 k (k + 1) (moment_of (w.R.Rng.stream c.args.rng.now) v) (moment_of (w.R.Rng.stream c.swap_out_pages.new.rng) c.swap_out_pages.new.self) (omega arith)
          (then_outs so.around so.outs c.in_ok-swap_out_pages.ensures.outs);
      failed = c.in_ok-swap_out_pages.ensures.no_failure ∙ so.failed;
      around = around_then so.around c.swap_out_pages.ensures.around;
    }

pub returns-in_err-swap_out_pages-clause-end : goal.returns-in_err-swap_out_pages-clause-end
returns-in_err-swap_out_pages-clause-end w c =
    let at = c.loop-g.invariant in
    let k = c.loop-g.g in
    let s = w.S.SwapStore in
    let v = c.args.self.now in
    let m = moment_of (w.R.Rng.stream c.args.rng.now) v in
    let m' = moment_of (w.R.Rng.stream c.swap_out_pages.new.rng) c.swap_out_pages.new.self in
    let below : k ≤ length v.tenants = omega (arith, c.loop-g-test.true, c.loop-g.auto.g-end, c.requires.count) in
    on_err c.from_residual.result
    (end_up_to v.frames (s.slots v.store) 0 k (length v.tenants) m m' below
    (then_end at.around at.outs c.in_err-swap_out_pages.ensures.end))

pub returns-clause-outs : goal.returns-clause-outs
returns-clause-outs w c =
    let at = c.loop-g.invariant in
    let k = c.loop-g.g in
    let s = w.S.SwapStore in
    let v = c.args.self.now in
    let higher : k ≤ length v.tenants = omega (arith, c.loop-g.auto.g-end, c.requires.count) in
    up_to v.frames (s.slots v.store) 0 k (length v.tenants) (moment_of (w.R.Rng.stream c.args.rng.now) v) (moment_of (w.R.Rng.stream c.loop-g.rng) c.loop-g.self) higher at.outs
