use Rattle.std.proofs.Common.{List, [], ◌∷◌, subst}
use Rattle.booting.specs.declared.asked.NewGuest.{NewGuest}
use Rattle.world.specs.Boots.{AreWithinLimits, AreBooted}
use Rattle.load_and_go.proofs.Worlds.{view_holds, refused_alone}
use Rattle.load_and_go.proofs.boot.boot_text.Goals as goal

pub returns-in-Ok-boot-clause-view : goal.returns-in-Ok-boot-clause-view
returns-in-Ok-boot-clause-view g c =
    let one = c.in-Ok.ensures.one in
    let runs = c.args.config.log_runs in
    let tenants = c.in-Ok-boot.world.tenants in
    let booted : AreBooted runs (one.0 ∷ []) tenants = subst (λ (guests : List NewGuest). AreBooted runs guests tenants) one.1 c.in-Ok-boot.ensures.booted in
    view_holds c.args.text.now runs one.0 tenants booted one.4

pub returns-in-Ok-boot-clause-booted : goal.returns-in-Ok-boot-clause-booted
returns-in-Ok-boot-clause-booted g c =
    let one = c.in-Ok.ensures.one in
    let config = c.args.config in
    let tenants = c.in-Ok-boot.world.tenants in
    let within = AreWithinLimits config (g.S.SwapStore.slots c.args.store) in (
      one.0,
      one.2,
      subst (λ (guests : List NewGuest). AreBooted config.log_runs guests tenants) one.1 c.in-Ok-boot.ensures.booted,
      subst within one.1 c.in-Ok-boot.ensures.within.0,
    )

pub returns-in-Err-boot-clause-refused : goal.returns-in-Err-boot-clause-refused
returns-in-Err-boot-clause-refused g c =
    let one = c.in-Ok.ensures.one in
    let slots = g.S.SwapStore.slots c.args.store in
    (one.0, one.2, one.3, refused_alone c.args.config slots one.0 c.in-Ok.guests.items c.in-Err-boot.error one.1 c.in-Err-boot.ensures.err)
