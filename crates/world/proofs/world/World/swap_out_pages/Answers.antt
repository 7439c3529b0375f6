use Rattle.std.proofs.Common.{◌∙◌, get_or, length-set, ap, length, arith}
use Rattle.world.proofs.All.{around_then, moment_of, some_tenant}
use Rattle.world.proofs.Choices.{none_out, one_out, then_outs, then_end}
use Rattle.world.proofs.Turning.{one_loses_more, on_err}
use Rattle.world.proofs.world.World.swap_out_pages.Goals as goal

pub loop-preserved : goal.loop-preserved
loop-preserved g c =
    let at = c.loop in
    let mid = at.self.tenants in
    let ts' = c.swap_out.new.self.tenants in
    let d = some_tenant mid c.args.g at.invariant.inside in
    record {
      inside = omega (arith, at.invariant.inside, ap length (c.in_ok-swap_out.ensures.loses.one d), length-set mid c.args.g (get_or ts' c.args.g d));
      loses = one_loses_more at.counter 1 c.args.g c.args.self.now.tenants mid ts' at.invariant.loses c.in_ok-swap_out.ensures.loses;
      outs = then_outs at.invariant.around at.invariant.outs (one_out at.self.frames (g.S.SwapStore.slots at.self.store) c.args.g (moment_of (g.R.Rng.stream at.rng) at.self) _ c.in_ok-swap_out.ensures.out);
      failed = c.in_ok-swap_out.ensures.no_failure ∙ at.invariant.failed;
      around = around_then at.invariant.around c.swap_out.ensures.around;
    }

pub returns-in_err-swap_out-clause-end : goal.returns-in_err-swap_out-clause-end
returns-in_err-swap_out-clause-end g c =
    let at = c.loop.invariant in
    let from = c.loop.self in
    let m = moment_of (g.R.Rng.stream c.loop.rng) from in
    on_err c.from_residual.result
    (then_end at.around at.outs (record { last = m; before = none_out from.frames (g.S.SwapStore.slots from.store) c.args.g m; stay = c.in_err-swap_out.ensures.stays }))
