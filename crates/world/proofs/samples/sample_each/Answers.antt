use Rattle.std.proofs.Common.{◌<◌, length, set, refl, subst, arith, length-set}
use Rattle.world.proofs.All.{IsSampled, TenantIs, any_default}
use Rattle.taxpolicy.specs.Sample.{after_words}
use Rattle.world.proofs.Sampling.{one_more, others_stay, words_next}
use Rattle.world.proofs.samples.sample_each.Goals as goal

pub loop-g-init : goal.loop-g-init
unfolding after_words
loop-g-init g c = record { count = refl; sampled = λ h t below. absurd (omega (arith, below)); others = λ h t past. refl; words = refl }

pub loop-g-preserved : goal.loop-g-preserved
loop-g-preserved g c =
    let stream = g.R.Rng.stream in
    let old = c.args.tenants.now in
    let mid = c.loop-g.tenants in
    let k = c.loop-g.g in
    let so = c.loop-g.invariant in
    let t' = c.sample.new.self in
    let inside : k < length old = omega (arith, c.loop-g-test.true, so.count, c.loop-g.auto.g-end) in
    record {
      count = simp length-set so.count;
      sampled = one_more k (stream c.args.rng.now) (stream c.loop-g.rng) old mid (set mid k t') t' inside so.count so.words refl
          (λ t. subst (λ (u : TenantIs). IsSampled (stream c.loop-g.rng) u t') (any_default mid k c.index-tenants-g.result t (omega (arith, inside, so.count))) c.sample.ensures.sampled) so.sampled so.others;
      others = others_stay k old mid (set mid k t') t' refl so.others;
      words = words_next k (stream c.args.rng.now) (stream c.loop-g.rng) (stream c.sample.new.rng) so.words c.sample.ensures.rest;
    }
