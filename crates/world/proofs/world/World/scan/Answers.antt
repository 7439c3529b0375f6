use Rattle.std.proofs.Common.{ℕ, refl, sym, subst, get_or, set}
use Rattle.world.proofs.All.{Answered, Comes, TenantIs, WorldIs, get_or-set_same, guest_at, guest_inside, lent_of, pages_in, sound_after}
use Rattle.tenant.proofs.Keeping.{moved_kept}
use Rattle.world.proofs.world.World.scan.Goals as goal

pub scan_page-requires-clause-covered : goal.scan_page-requires-clause-covered
scan_page-requires-clause-covered g c = (lent_of c.self.invariant (guest_inside c.self.view_is c.requires.guest) c.index_mut.ensures.value).covered

pub scan_page-requires-clause-own_once : goal.scan_page-requires-clause-own_once
scan_page-requires-clause-own_once g c = (lent_of c.self.invariant (guest_inside c.self.view_is c.requires.guest) c.index_mut.ensures.value).own_once

pub scan_page-requires-clause-frame_out : goal.scan_page-requires-clause-frame_out
scan_page-requires-clause-frame_out g c = (lent_of c.self.invariant (guest_inside c.self.view_is c.requires.guest) c.index_mut.ensures.value).frame_out

pub invariant_of-self : goal.invariant_of-self
invariant_of-self g c =
    let s = g.S.SwapStore in
    let w = c.self.inside in
    let new = c.scan_page.new in
    let e = c.scan_page.ensures in
    sound_after c.self.invariant c.args.g c.index_mut.result.now new.pages (s.slots w.store) (s.true_to_digests w.store) (s.held w.store) new.pool w.slots new.shares.entries
    (guest_inside c.self.view_is c.requires.guest) c.index_mut.ensures.value refl (e.conserves w.slots) e.reads (λ trust. trust)
    (λ trust k. moved_kept _ _ _ _ e.rest e.count (e.kept (s.held w.store)) k) (λ trust slot none. refl)

pub returns-clause-answer : goal.returns-clause-answer
returns-clause-answer g c = λ t.
    let old = c.index_mut.result.now in
    let p = c.args.p in
    subst (λ (u : TenantIs). Answered c.args.self.now.shares (pages_in u) (record { guest = c.args.g; page = p }) c.scan_page.result) (guest_at c.self.view_is c.requires.guest c.index_mut.ensures.value t)
    (subst (λ (x : WorldIs _). Answered x.shares (pages_in old) (record { guest = c.args.g; page = p }) c.scan_page.result) c.self.view_is
    (subst (λ (n : ℕ). Answered c.self.inside.shares (pages_in old) (record { guest = n; page = p }) c.scan_page.result) c.new.ensures c.scan_page.ensures.answer))

pub returns-clause-comes : goal.returns-clause-comes
returns-clause-comes g c = λ t.
    let ts = c.self.inside.tenants.items in
    let old = c.index_mut.result.now in
    let new = c.scan_page.new in
    let came = c.scan_page.ensures.comes in (
      came.0,
      subst (λ (u : TenantIs). Comes c.args.self.now.shares.entries (pages_in u) c.args.p c.scan_page.result new.shares.entries (pages_in (get_or (set ts c.args.g new.pages) c.args.g t)) came.0)
          (guest_at c.self.view_is c.requires.guest c.index_mut.ensures.value t)
          (subst (λ (u : TenantIs). Comes c.args.self.now.shares.entries (pages_in old) c.args.p c.scan_page.result new.shares.entries (pages_in u) came.0)
          (sym (get_or-set_same ts c.args.g new.pages t (guest_inside c.self.view_is c.requires.guest)))
          (subst (λ (x : WorldIs _). Comes x.shares.entries (pages_in old) c.args.p c.scan_page.result new.shares.entries (pages_in new.pages) came.0) c.self.view_is came.1)),
    )
