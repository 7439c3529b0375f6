use Rattle.std.proofs.Common.{◌≡◌, true, false, sym, subst}
use Rattle.world.proofs.All.{IfOk-weaker, TenantIs, WorldIs, accepts, guest_at, guest_inside, input_sound, kept_of, on_ok_weaker, replied, reply, view_of}
use Rattle.world.proofs.world.World.input.Goals as goal

pub invariant_of-self : goal.invariant_of-self
invariant_of-self g c =
    input_sound c.self.invariant c.args.g c.index_mut.result.now c.input.new.self (guest_inside c.self.view_is c.requires.guest) c.index_mut.ensures.value c.input.ensures.outline
    (λ k. c.input.ensures.kept (g.S.SwapStore.held c.self.inside.store) k)

pub returns-clause-accepted : goal.returns-clause-accepted
returns-clause-accepted g c =
    let s = g.S.SwapStore in
    on_ok_weaker c.input.result (λ f trust d. subst (λ (u : TenantIs). accepts c.args.item.what (view_of u.guest) ≡ true) (guest_at c.self.view_is c.requires.guest c.index_mut.ensures.value d)
    (f (s.held c.self.inside.store) (kept_of c.self.invariant (guest_inside c.self.view_is c.requires.guest) c.index_mut.ensures.value
    (subst (λ (x : WorldIs _). s.true_to_digests x.store) (sym c.self.view_is) trust)))) c.input.ensures.accepted

pub returns-clause-reply : goal.returns-clause-reply
returns-clause-reply g c =
    let s = g.S.SwapStore in
    IfOk-weaker c.input.result _ _ (λ r f trust d. subst (λ (u : TenantIs). replied r ≡ reply c.args.item.what (view_of u.guest)) (guest_at c.self.view_is c.requires.guest c.index_mut.ensures.value d)
    (f (s.held c.self.inside.store) (kept_of c.self.invariant (guest_inside c.self.view_is c.requires.guest) c.index_mut.ensures.value
    (subst (λ (x : WorldIs _). s.true_to_digests x.store) (sym c.self.view_is) trust)))) c.input.ensures.reply

pub returns-clause-refused : goal.returns-clause-refused
returns-clause-refused g c = λ is trust d.
    let s = g.S.SwapStore in
    subst (λ (u : TenantIs). accepts c.args.item.what (view_of u.guest) ≡ false) (guest_at c.self.view_is c.requires.guest c.index_mut.ensures.value d)
    (c.input.ensures.refused is (s.held c.self.inside.store) (kept_of c.self.invariant (guest_inside c.self.view_is c.requires.guest) c.index_mut.ensures.value
    (subst (λ (x : WorldIs _). s.true_to_digests x.store) (sym c.self.view_is) trust)))
