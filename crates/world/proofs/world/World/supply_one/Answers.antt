use Rattle.std.proofs.Common.{◌<◌, length, sym, subst}
use Rattle.world.proofs.All.{TenantIs, pages_in}
use Rattle.world.proofs.world.World.supply_one.Goals as goal

pub kind-requires : goal.kind-requires
kind-requires g c =
    let t = c.guest.result.now in
    subst (λ (u : TenantIs). c.args.p < length (pages_in u)) (sym (c.guest.ensures t)) (c.requires.page t)
