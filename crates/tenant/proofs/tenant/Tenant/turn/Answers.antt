use Rattle.std.proofs.Common.{sym, subst}
use Rattle.tenant.specs.Tenants.{TenantIs, IsKept}
use Rattle.tenant.proofs.tenant.Tenant.turn.Goals as goal

pub returns-in-Ok-clause-kept : goal.returns-in-Ok-clause-kept
returns-in-Ok-clause-kept c = λ held k.
    let blocked : TenantIs = record c.args.self.now { blocked = c.args.action.blocked } in
    let before : IsKept held blocked = record { intact = k.intact; pages = k.pages } in
    c.set_target.ensures.kept held (subst (IsKept held) (sym c.set_blocked.ensures) before)
