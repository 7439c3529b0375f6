use Rattle.std.proofs.Common.{sym, subst}
use Rattle.tenant.specs.Tenants.{TenantIs, IsKept}
use Rattle.tenant.proofs.Keeping.{still_kept}
use Rattle.tenant.proofs.tenant.Tenant.step.Goals as goal

pub returns-clause-kept : goal.returns-clause-kept
returns-clause-kept c = λ held k.
    let old : TenantIs = record { guest = c.self.inside.guest; shares = c.self.inside.state.shares; minimum = c.self.inside.state.minimum; sample = c.self.inside.state.sample; blocked = c.self.inside.state.blocked } in
    let roomy : TenantIs = record { guest = c.log_room.new.self; shares = c.self.inside.state.shares; minimum = c.self.inside.state.minimum; sample = c.self.inside.state.sample; blocked = c.self.inside.state.blocked } in
    let before : IsKept held roomy = still_kept held old roomy c.log_room.ensures.unchanged c.log_room.ensures.taken.items (subst (IsKept held) (sym c.self.view_is) k) in
    record { intact = c.step.ensures.intact before.intact; pages = c.step.ensures.kept before.intact held before.pages }
