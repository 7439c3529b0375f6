use Rattle.std.proofs.Common.{ap, arith, length}
use Rattle.guest_log.specs.Logs.{LogIs}
use Rattle.guest_log.specs.Runs.{run_count}
use Rattle.guest_log.proofs.Keeping.{keeps_other}
use Rattle.guest_log.proofs.log.Log.add.Goals as goal

pub invariant_of-self : goal.invariant_of-self
invariant_of-self c =
    let g = c.self.inside in
    let runs = ap (λ (v : LogIs). run_count v.items) c.self.view_is in
    let limit = ap (λ (v : LogIs). v.limit) c.self.view_is in
    let items = ap (λ (v : LogIs). length v.items) c.self.view_is in
    rw (c.push_reserved.ensures.items, c.store.ensures.items) (keeps_other g.earlier.items g.before g.last.seat g.last.steps g.limit c.args.item c.requires.other (omega (arith, runs, limit)) (omega (arith, items)) c.self.invariant)
