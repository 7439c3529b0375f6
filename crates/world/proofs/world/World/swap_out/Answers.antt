use Rattle.std.proofs.Common.{◌<◌, sym, subst}
use Rattle.world.proofs.All.{TenantIs, pages_in, resident_pages}
use Rattle.world.proofs.Turning.{still_err}
use Rattle.world.proofs.world.World.swap_out.Goals as goal

pub drawn_page-p-requires : goal.drawn_page-p-requires
drawn_page-p-requires g c =
    let t = c.guest.result.now in
    subst (λ (u : TenantIs). u.minimum < resident_pages (pages_in u)) (sym (c.guest.ensures t)) (c.requires.more t)

pub returns-clause-err : goal.returns-clause-err
returns-clause-err g c = still_err c.evict_of-swapped.result c.args.self.now.slots c.evict_of-swapped.new.self.slots _ c.evict_of-swapped.ensures.slots_unchanged c.evict_of-swapped.ensures.err
