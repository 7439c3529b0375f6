use Rattle.std.proofs.Common.{◌<◌, ◌∷◌, [], None, false, List, length, get_or, ap, sym, subst, arith, length-append}
use Rattle.world.proofs.All.{Action, Aim, IsTurned, TenantIs, any_default, same_then, some_tenant}
use Rattle.world.proofs.Turning.{next_count, others_same, turned_more}
use Rattle.world.proofs.world.World.turn_each.Goals as goal

pub loop-g-preserved : goal.loop-g-preserved
loop-g-preserved w c =
    let at = c.loop-g in
    let so = at.invariant in
    let k = at.g in
    let old = c.args.self.now.tenants in
    let mid = at.self.tenants in
    let ts' = c.turn_guest-aim.new.self.tenants in
    let acts = c.args.actions.now in
    let aim = c.turn_guest-aim.result in
    let none : Action = record { balloon = None; swap_out = 0; blocked = false } in
    let action = get_or acts k none in
    let how : TenantIs → TenantIs → Type 0 = λ t t'. IsTurned action t aim t' in
    let below : k < length acts = omega (arith, c.loop-g-test.true, at.auto.g-end) in
    let inside : k < length old = omega (arith, below, c.requires) in
    let pushed = c.push_reserved.ensures in
    let e = c.turn_guest-aim.ensures in
    record {
      count = next_count k old mid ts' how inside so.count so.others e.turned (some_tenant old k inside);
      aims = omega (arith, ap length pushed.items, length-append at.aims.items (aim ∷ []), so.aims);
      len = omega (arith, pushed.len, so.len);
      room = omega (arith, pushed.capacity, so.room);
      turned = λ h t d b before.
          subst (λ (l : List Aim). IsTurned (get_or acts h d) (get_or old h t) (get_or l h b) (get_or ts' h t)) (sym pushed.items)
          (turned_more k acts old mid ts' at.aims.items aim action inside so.count so.aims (λ d. any_default acts k d none below) e.turned so.others so.turned h t d b before);
      others = others_same k old mid ts' how inside so.count so.others e.turned;
      around = same_then so.around e.around;
    }
