use Rattle.std.proofs.Common.{◌≡◌, ◌++◌, ℕ, List, length, take, drop, sym, ap, subst, ◌∙◌, arith}
use Rattle.world.proofs.All.{AreSampled, OnlySamplesChange, Sound, TenantIs, tenants_of}
use Rattle.std.proofs.Math.Seq.{take-append_seam}
use Rattle.world.proofs.Sampling.{only_samples, sound_sampled}
use Rattle.world.proofs.world.World.sample.Goals as goal

pub returns-clause-beside : goal.returns-clause-beside
returns-clause-beside g c =
    let w = c.self.inside in
    let old = w.tenants.items in
    let new = c.sample_each.new.tenants in
    let all : AreSampled (g.R.Rng.stream c.args.rng.now) old new = subst (λ (ts : List TenantIs). AreSampled (g.R.Rng.stream c.args.rng.now) ts new) c.deref_mut.ensures.value c.sample_each.ensures.sampled in
    let same : w.tenants.len ≡ length new = omega (arith, all.count, c.deref_mut.ensures.len, ap length c.deref_mut.ensures.value) in
    let back : take w.tenants.len (new ++ drop (length new) old) ≡ new = ap (λ (n : ℕ). take n (new ++ drop (length new) old)) same ∙ take-append_seam new (drop (length new) old) in
    subst (λ (ts : List TenantIs). OnlySamplesChange ts (take w.tenants.len (new ++ drop (length new) old))) (tenants_of c.self.view_is)
    (subst (OnlySamplesChange old) (sym back) (only_samples (g.R.Rng.stream c.args.rng.now) old new all))

pub invariant_of-self : goal.invariant_of-self
invariant_of-self g c =
    let w = c.self.inside in
    let old = w.tenants.items in
    let new = c.sample_each.new.tenants in
    let slots = g.S.SwapStore.slots w.store in
    let trusted = g.S.SwapStore.true_to_digests w.store in
    let held = g.S.SwapStore.held w.store in
    let all : AreSampled (g.R.Rng.stream c.args.rng.now) old new = subst (λ (ts : List TenantIs). AreSampled (g.R.Rng.stream c.args.rng.now) ts new) c.deref_mut.ensures.value c.sample_each.ensures.sampled in
    let same : w.tenants.len ≡ length new = omega (arith, all.count, c.deref_mut.ensures.len, ap length c.deref_mut.ensures.value) in
    let back : take w.tenants.len (new ++ drop (length new) old) ≡ new = ap (λ (n : ℕ). take n (new ++ drop (length new) old)) same ∙ take-append_seam new (drop (length new) old) in
    subst (λ (ts : List TenantIs). Sound w.frames slots trusted held ts w.pool w.slots w.shares.entries) (sym back)
    (sound_sampled w.frames slots trusted held old new w.pool w.slots w.shares.entries (only_samples (g.R.Rng.stream c.args.rng.now) old new all) c.self.invariant)
