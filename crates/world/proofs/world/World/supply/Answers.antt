use Rattle.std.proofs.Common.{◌≡◌, ◌∙◌, IfErr, subst}
use Rattle.world.proofs.All.{HasDamage, IsDamagedPage, TenantIs, WhyAway, WorldIs, any_default, guest_inside, kept_of, lent_of, on_err_weaker, one_more, page_at, pages_in, pages_seen, same_guests, sound_after, view_of, why_away}
use Rattle.tenant.proofs.Keeping.{moved_kept}
use Rattle.world.proofs.world.World.supply.Goals as goal

pub supply_page-requires-clause-lent : goal.supply_page-requires-clause-lent
supply_page-requires-clause-lent g c = lent_of c.self.invariant (guest_inside c.self.view_is c.requires.guest) c.index_mut.ensures.value

pub invariant_of-self : goal.invariant_of-self
invariant_of-self g c =
    let s = g.S.SwapStore in
    let new = c.supply_page.new in
    let e = c.supply_page.ensures in
    sound_after c.self.invariant c.args.g c.index_mut.result.now new.pages (s.slots new.store) (s.true_to_digests new.store) (s.held new.store) new.pool new.slots new.shares.entries
    (guest_inside c.self.view_is c.requires.guest) c.index_mut.ensures.value e.slots e.conserves e.reads e.true_to_digests.0
    (λ trust k. moved_kept _ _ _ _ e.rest e.count (e.kept trust) k) (λ trust. e.used)

pub returns-clause-err : goal.returns-clause-err
returns-clause-err g c =
    let s = g.S.SwapStore in
    let w = c.self.inside in
    let e = c.supply_page.ensures in
    let inside = guest_inside c.self.view_is c.requires.guest in
    let its = c.index_mut.result.now in
    subst (λ (x : WorldIs _). IfErr c.supply_page.result (WhyAway x.pool (s.failed c.supply_page.new.store ≡ one_more (s.failed x.store)) (HasDamage s x.store x.tenants c.args.g c.args.p))) c.self.view_is
    (why_away c.supply_page.result w.pool _ _ (HasDamage s w.store w.tenants.items c.args.g c.args.p) (λ is damaged. record {
      damaged = λ t. subst (λ (u : TenantIs). IsDamagedPage s w.store (page_at (pages_in u) c.args.p)) (c.index_mut.ensures.value ∙ any_default w.tenants.items c.args.g its t inside) damaged;
      dishonest = λ honest. e.undamaged is honest (pages_seen (view_of its.guest)) (kept_of c.self.invariant inside c.index_mut.ensures.value (g.met.S.SwapStore.honest_is_true w.store honest)).pages;
    }) e.err)

pub returns-clause-unchanged : goal.returns-clause-unchanged
returns-clause-unchanged g c =
    on_err_weaker c.supply_page.result (same_guests c.supply_page.new.pages c.self.view_is c.requires.guest c.index_mut.ensures.value c.supply_page.ensures.rest) c.supply_page.ensures.unchanged
