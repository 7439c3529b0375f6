use Rattle.std.proofs.Common.{ap, arith, length}
use Rattle.guest_log.specs.Logs.{LogIs}
use Rattle.guest_log.proofs.Keeping.{length-items}
use Rattle.guest_log.proofs.log.Log.len.Goals as goal

pub returns : goal.returns
returns c =
    let g = c.self.inside in
    let seen = ap (λ (v : LogIs). length v.items) c.self.view_is in
    omega (arith, length-items g.earlier.items g.last.seat g.last.steps, c.self.invariant.before_is, seen)
