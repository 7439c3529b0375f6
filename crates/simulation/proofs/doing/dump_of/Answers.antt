use Rattle.std.proofs.Common.{◌≡◌, ◌∙◌, ℕ, IfOk, None, ap, get_or, string_bytes, subst}
use Rattle.std.proofs.lemmas.List.Elements.{All-get_or}
use Rattle.guest_log.specs.Logs.{LogIs}
use Rattle.world.specs.All.{GuestIs, IsKept, TenantIs, view_of}
use Rattle.dump.specs.Dumps.{dump_text}
use Rattle.dump.specs.Steps.{step_count}
use Rattle.simulation.proofs.doing.dump_of.Goals as goal

pub returns : goal.returns
returns g c = λ trust t.
    let w = c.args.world.now in
    let tenant = get_or w.tenants c.args.g t in
    let kept = All-get_or (IsKept (g.S.SwapStore.held w.store)) w.tenants c.args.g t c.requires (c.is_sound.ensures.kept trust) in
    let at : c.guest-guest.result.now ≡ tenant.guest = c.guest-guest.ensures ∙ ap (λ (u : TenantIs). u.guest) (c.guest.ensures t) in
    let steps : c.steps_in.result ≡ step_count tenant.guest.log.items =
    c.steps_in.ensures ∙ ap (λ (l : LogIs). step_count l.items) c.log.ensures ∙ ap (λ (x : GuestIs). step_count x.log.items) at in
    subst (λ (n : ℕ). IfOk c.dump.result (λ text. string_bytes text ≡ dump_text (view_of tenant.guest) n None)) steps
    (c.dump.ensures (view_of tenant.guest) (c.view.ensures.cpu ∙ ap (λ (x : GuestIs). x.cpu) at ∙ kept.intact.shows.cpu)
    (c.view.ensures.devices ∙ ap (λ (x : GuestIs). x.bus.devices) at ∙ kept.intact.shows.devices))
