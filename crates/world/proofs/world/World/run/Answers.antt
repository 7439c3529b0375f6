use Rattle.std.proofs.Common.{suc, ◌≡◌, ◌++◌, ◌∷◌, [], All, List, length, sym, ap, subst, ◌∙◌, append_assoc, length-append, arith}
use Rattle.world.proofs.All.{AllHappen, Answer, Event, IsProper, all_more, into_iter_items, limits_then, log_at, logs_more, own, store_then}
use Rattle.world.proofs.world.World.run.Goals as goal

pub loop-event-preserved : goal.loop-event-preserved
loop-event-preserved g c =
    let store = g.S.SwapStore in
    let at = c.loop-event in
    let e = c.in-Some.event in
    let a = c.apply-answer.result in
    let rest = into_iter_items c.next.new.self in
    let steps : into_iter_items at.event-iterator ≡ e ∷ rest = c.in-Some.ensures.steps.0 in
    let gone = c.in-Some.ensures.steps.1 in
    let items : c.push_reserved.new.self.items ≡ at.answers.items ++ a ∷ [] = c.push_reserved.ensures.items in
    let longer = length-append at.answers.items (a ∷ []) in
    let proper : All IsProper (e ∷ rest) = subst (λ (l : List Event). All IsProper l) steps at.invariant.proper in
    record {
      order = append_assoc at.yielded (e ∷ []) rest ∙ ap (λ (l : List Event). at.yielded ++ l) (sym steps) ∙ at.invariant.order;
      left = omega (arith, at.invariant.left, gone, ap length steps);
      proper = λ k d h. proper (suc k) d (omega (arith, h));
      logs = λ h. subst (λ (l : List Answer). log_at c.apply-answer.new.self.tenants h ≡ log_at c.args.self.now.tenants h ++ own h (at.yielded ++ e ∷ []) l) (sym items)
          (logs_more h at.yielded at.answers.items e a (log_at c.args.self.now.tenants h) (log_at at.self.tenants h) (log_at c.apply-answer.new.self.tenants h)
          (sym at.invariant.count) (at.invariant.logs h) (c.apply-answer.ensures.logs h));
      happen = subst (λ (l : List Answer). AllHappen store c.args.tax.percent (g.R.Rng.stream c.args.rng.now) c.args.self.now (at.yielded ++ e ∷ []) l (g.R.Rng.stream c.apply-answer.new.rng) c.apply-answer.new.self) (sym items)
          (all_more store c.args.tax.percent (g.R.Rng.stream c.args.rng.now) (g.R.Rng.stream at.rng) (g.R.Rng.stream c.apply-answer.new.rng) c.args.self.now at.self c.apply-answer.new.self at.yielded at.answers.items e a at.invariant.happen c.apply-answer.ensures);
      count = omega (arith, ap length items, longer, length-append at.yielded (e ∷ []), at.invariant.count);
      len = omega (arith, c.push_reserved.ensures.len, ap length items, longer, at.invariant.len);
      room = omega (arith, c.push_reserved.ensures.len, c.push_reserved.ensures.capacity, gone, at.invariant.room);
      boots = c.apply-answer.ensures.boots ∙ at.invariant.boots;
      limits = limits_then at.invariant.limits c.apply-answer.ensures.limits;
      frames = c.apply-answer.ensures.frames ∙ at.invariant.frames;
      store = store_then at.invariant.store c.apply-answer.ensures.store;
    }
