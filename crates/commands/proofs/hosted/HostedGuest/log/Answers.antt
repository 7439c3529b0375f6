use Rattle.std.proofs.Common.{ap, ◌∙◌}
use Rattle.guest.specs.Guests.{GuestIs}
use Rattle.tenant.specs.Tenants.{TenantIs}
use Rattle.commands.specs.Hosted.{HostedIs}
use Rattle.commands.proofs.Hosting.{first_log, first_tenant}
use Rattle.commands.proofs.hosted.HostedGuest.log.Goals as goal

pub returns : goal.returns
returns c =
    let ts = c.self.inside.world.tenants in
    let t = first_tenant ts c.self.invariant.one in
    c.log.ensures ∙ ap (λ (g : GuestIs). g.log) c.guest-2.ensures ∙ ap (λ (u : TenantIs). u.guest.log) (c.guest.ensures t)
    ∙ first_log ts t c.self.invariant.one ∙ ap (λ (h : HostedIs). h.log) c.self.view_is
