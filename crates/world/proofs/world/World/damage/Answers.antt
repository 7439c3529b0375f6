use Rattle.std.proofs.Common.{ℕ, List, OnOk, subst}
use Rattle.world.proofs.All.{AreHeldByDigest, WorldIs}
use Rattle.world.proofs.Damaged.{sound_damaged}
use Rattle.world.proofs.world.World.damage.Goals as goal

pub invariant_of-self : goal.invariant_of-self
invariant_of-self g c =
    let w = c.self.inside in
    let e = c.damage.ensures in
    sound_damaged w.frames (g.S.SwapStore.slots w.store) (g.S.SwapStore.slots c.damage.new.self) (g.S.SwapStore.true_to_digests w.store) (g.S.SwapStore.true_to_digests c.damage.new.self)
    (g.S.SwapStore.held w.store) (g.S.SwapStore.held c.damage.new.self) w.tenants.items w.pool w.slots w.shares.entries e.slots e.untrue_stays e.held c.self.invariant

pub returns-clause-told : goal.returns-clause-told
returns-clause-told g c =
    let s = g.S.SwapStore in
    let new = c.damage.new.self in
    subst (λ (w : WorldIs _). OnOk c.damage.result
    (s.true_to_digests w.store → ((bytes : List ℕ) → s.gives new c.args.slot bytes → AreHeldByDigest (s.held w.store c.args.slot) bytes) → s.true_to_digests new)) c.self.view_is c.damage.ensures.told
