use Rattle.std.proofs.Common.{sym, subst}
use Rattle.tenant.specs.Tenants.{TenantIs, IsKept}
use Rattle.tenant.proofs.tenant.Tenant.input.Goals as goal

pub returns-in-0-clause-kept : goal.returns-in-0-clause-kept
returns-in-0-clause-kept c = λ held k.
    let old : TenantIs = record { guest = c.self.inside.guest; shares = c.self.inside.state.shares; minimum = c.self.inside.state.minimum; sample = c.self.inside.state.sample; blocked = c.self.inside.state.blocked } in
    let before : IsKept held old = subst (IsKept held) (sym c.self.view_is) k in
    record { intact = c.input.ensures.intact before.intact; pages = c.input.ensures.kept before.intact held before.pages }

pub returns-in-1-clause-kept : goal.returns-in-1-clause-kept
returns-in-1-clause-kept c = λ held k.
    let old : TenantIs = record { guest = c.self.inside.guest; shares = c.self.inside.state.shares; minimum = c.self.inside.state.minimum; sample = c.self.inside.state.sample; blocked = c.self.inside.state.blocked } in
    let before : IsKept held old = subst (IsKept held) (sym c.self.view_is) k in
    record { intact = c.input-in-1.ensures.intact before.intact; pages = c.input-in-1.ensures.kept before.intact held before.pages }

pub returns-in-2-clause-kept : goal.returns-in-2-clause-kept
returns-in-2-clause-kept c = λ held k.
    let old : TenantIs = record { guest = c.self.inside.guest; shares = c.self.inside.state.shares; minimum = c.self.inside.state.minimum; sample = c.self.inside.state.sample; blocked = c.self.inside.state.blocked } in
    let before : IsKept held old = subst (IsKept held) (sym c.self.view_is) k in
    record { intact = c.input-in-2.ensures.intact before.intact; pages = c.input-in-2.ensures.kept before.intact held before.pages }

pub returns-in_default-clause-kept : goal.returns-in_default-clause-kept
returns-in_default-clause-kept c = λ held k.
    let old : TenantIs = record { guest = c.self.inside.guest; shares = c.self.inside.state.shares; minimum = c.self.inside.state.minimum; sample = c.self.inside.state.sample; blocked = c.self.inside.state.blocked } in
    let before : IsKept held old = subst (IsKept held) (sym c.self.view_is) k in
    record { intact = c.input-in_default.ensures.intact before.intact; pages = c.input-in_default.ensures.kept before.intact held before.pages }
