use Rattle.std.proofs.Common.{◌∙◌, Err, ap, sym}
use Rattle.guest.specs.Guests.{GuestIs}
use Rattle.guest_pages.specs.Pages.{kind_at}
use Rattle.tenant.specs.Tenants.{TenantIs}
use Rattle.commands.proofs.Hosting.{first_tenant, none_away}
use Rattle.commands.proofs.hosted.read_bytes.Goals as goal

-- no page is in a slot, since there is none
pub unreachable-requires : goal.unreachable-requires
unreachable-requires c =
    let ts = c.args.world.now.tenants in
    let t = first_tenant ts c.requires.one in
    let page = c.in-Err-Away.field-0-0 in
    let same = c.guest-2.ensures ∙ ap (λ (u : TenantIs). u.guest) (c.guest.ensures t) in
    let away = c.debug_read.ensures.away page (c.in-Err-Away.is ∙ ap Err c.in-Err-Away.field-0-is) in
    none_away _ _ _ _ _ _ _ ts t page c.requires.one c.requires.slots c.is_sound.ensures (sym (ap (λ (g : GuestIs). kind_at g.bus.pages page) same) ∙ away)
