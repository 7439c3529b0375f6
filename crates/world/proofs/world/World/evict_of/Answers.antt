use Rattle.std.proofs.Common.{set, sym, subst}
use Rattle.world.proofs.All.{Sound, TenantIs, guest_inside, lent_of, same_guests, sound_after}
use Rattle.tenant.proofs.Keeping.{moved_kept}
use Rattle.world.proofs.Turning.{on_err}
use Rattle.world.proofs.world.World.evict_of.Goals as goal

pub evict_page-requires-clause-lent : goal.evict_page-requires-clause-lent
evict_page-requires-clause-lent g c = lent_of c.self.invariant (guest_inside c.self.view_is c.requires.guest) c.index_mut-tenant.ensures.value

pub invariant_of-self : goal.invariant_of-self
invariant_of-self g c =
    let s = g.S.SwapStore in
    let new = c.evict_page.new in
    let e = c.evict_page.ensures in
    sound_after c.self.invariant c.args.g c.index_mut-tenant.result.now new.pages (s.slots new.store) (s.true_to_digests new.store) (s.held new.store) new.pool new.slots new.shares.entries
    (guest_inside c.self.view_is c.requires.guest) c.index_mut-tenant.ensures.value e.slots e.conserves e.reads e.true_to_digests.0
    (λ trust k. moved_kept _ _ _ _ e.rest e.count e.kept k) (λ trust. e.used)

pub invariant_of-self-2 : goal.invariant_of-self-2
invariant_of-self-2 g c =
    let s = g.S.SwapStore in
    let w = c.self.inside in
    let new = c.evict_page.new in
    let e = c.evict_page.ensures in
    subst (λ (t : TenantIs). Sound w.frames (s.slots new.store) (s.true_to_digests new.store) (s.held new.store) (set w.tenants.items c.args.g t) new.pool new.slots new.shares.entries)
    (sym c.count_eviction.ensures)
    (sound_after c.self.invariant c.args.g c.index_mut-tenant.result.now new.pages (s.slots new.store) (s.true_to_digests new.store) (s.held new.store) new.pool new.slots new.shares.entries
    (guest_inside c.self.view_is c.requires.guest) c.index_mut-tenant.ensures.value e.slots e.conserves e.reads e.true_to_digests.0
    (λ trust k. moved_kept _ _ _ _ e.rest e.count e.kept k) (λ trust. e.used))

pub returns-in_err-evict_page-clause-unchanged : goal.returns-in_err-evict_page-clause-unchanged
returns-in_err-evict_page-clause-unchanged g c =
    on_err c.from_residual.result
    (same_guests c.evict_page.new.pages c.self.view_is c.requires.guest c.index_mut-tenant.ensures.value c.evict_page.ensures.rest c.in_err-evict_page.ensures.unchanged)
