use Rattle.std.proofs.Common.{◌≡◌, IfOk, refl, sym, subst}
use Rattle.world.proofs.All.{TenantIs, WorldIs, accesses, first_lack, guest_at, guest_inside, kept_of, lacks_in, lent_of, need_of, pages_in, sound_after, view_of}
use Rattle.world.proofs.world.World.step.Goals as goal

pub step_in-requires : goal.step_in-requires
step_in-requires g c = (g.S.SwapStore.slots c.self.inside.store, lent_of c.self.invariant (guest_inside c.self.view_is c.requires) c.index_mut.ensures.value)

pub invariant_of-self : goal.invariant_of-self
invariant_of-self g c =
    let s = g.S.SwapStore in
    let store = c.self.inside.store in
    let new = c.step_in.new in
    let e = c.step_in.ensures in
    sound_after c.self.invariant c.args.g c.index_mut.result.now new.tenant (s.slots store) (s.true_to_digests store) (s.held store) new.pool new.slots new.shares.entries
    (guest_inside c.self.view_is c.requires) c.index_mut.ensures.value refl e.conserves e.reads (λ trust. trust) (λ trust k. e.kept (s.held store) k) (λ trust slot none. refl)

pub returns-clause-need : goal.returns-clause-need
returns-clause-need g c = λ trust d.
    let s = g.S.SwapStore in
    let kept = kept_of c.self.invariant (guest_inside c.self.view_is c.requires) c.index_mut.ensures.value (subst (λ (x : WorldIs _). s.true_to_digests x.store) (sym c.self.view_is) trust) in
    subst (λ (u : TenantIs). IfOk c.step_in.result (λ s. need_of s ≡ first_lack (lacks_in (pages_in u)) (accesses (view_of u.guest)))) (guest_at c.self.view_is c.requires c.index_mut.ensures.value d)
    (c.step_in.ensures.need (s.held c.self.inside.store) kept)
