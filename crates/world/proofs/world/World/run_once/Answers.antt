use Rattle.std.proofs.Common.{ℕ, ◌≡◌, Some, IfOk, get_or, set, refl, sym, subst}
use Rattle.world.proofs.All.{NoneNeeds, TenantIs, Why, WorldIs, accesses, first_lack, get_or-set_same, guest_at, guest_inside, kept_of, lacks_in, lent_of, pages_in, sound_after, view_of}
use Rattle.world.proofs.Unsupplied.{one_run_ok}
use Rattle.world.proofs.world.World.run_once.Goals as goal

pub run_in-requires-clause-lent : goal.run_in-requires-clause-lent
run_in-requires-clause-lent g c = (g.S.SwapStore.slots c.self.inside.store, lent_of c.self.invariant (guest_inside c.self.view_is c.requires.guest) c.index_mut.ensures.value)

pub invariant_of-self : goal.invariant_of-self
invariant_of-self g c =
    let s = g.S.SwapStore in
    let store = c.self.inside.store in
    let new = c.run_in.new in
    let e = c.run_in.ensures in
    sound_after c.self.invariant c.args.g c.index_mut.result.now new.tenant (s.slots store) (s.true_to_digests store) (s.held store) new.pool new.slots new.shares.entries
    (guest_inside c.self.view_is c.requires.guest) c.index_mut.ensures.value refl e.conserves e.reads (λ trust. trust) (λ trust k. e.kept (s.held store) k) (λ trust slot none. refl)

pub returns-clause-need : goal.returns-clause-need
returns-clause-need g c = λ trust d.
    let s = g.S.SwapStore in
    let inside = guest_inside c.self.view_is c.requires.guest in
    let kept = kept_of c.self.invariant inside c.index_mut.ensures.value (subst (λ (x : WorldIs _). s.true_to_digests x.store) (sym c.self.view_is) trust) in
    subst (λ (u : TenantIs). IfOk c.run_in.result (λ made. (p : ℕ) (why : Why) → made.1 ≡ Some (p, why) → first_lack (lacks_in (pages_in u)) (accesses (view_of u.guest)) ≡ Some (p, why)))
    (sym (get_or-set_same c.self.inside.tenants.items c.args.g c.run_in.new.tenant d inside)) (c.run_in.ensures.need (s.held c.self.inside.store) kept)

pub returns-clause-needs_none : goal.returns-clause-needs_none
returns-clause-needs_none g c = λ trust d.
    let s = g.S.SwapStore in
    let held = s.held c.self.inside.store in
    let ts = c.self.inside.tenants.items in
    let t = c.index_mut.result.now in
    let new = c.run_in.new.tenant in
    let e = c.run_in.ensures in
    let inside = guest_inside c.self.view_is c.requires.guest in
    let kept = kept_of c.self.invariant inside c.index_mut.ensures.value (subst (λ (x : WorldIs _). s.true_to_digests x.store) (sym c.self.view_is) trust) in
    subst (λ (u : TenantIs). IfOk c.run_in.result (λ made. NoneNeeds made.0 (view_of u.guest) (pages_in u) (pages_in (get_or (set ts c.args.g new) c.args.g d))))
    (guest_at c.self.view_is c.requires.guest c.index_mut.ensures.value d)
    (subst (λ (u : TenantIs). IfOk c.run_in.result (λ made. NoneNeeds made.0 (view_of t.guest) (pages_in t) (pages_in u))) (sym (get_or-set_same ts c.args.g new d inside))
    (one_run_ok c.run_in.result (view_of t.guest) (pages_in t) (pages_in new) (e.quiet held kept) (e.gives_last held kept) (e.given held kept)))
