use Rattle.std.proofs.Common.{◌≡◌, ℕ, ◌<◌, length, get_or, ◌∙◌, arith}
use Rattle.std.proofs.lemmas.List.{get_or_default}
use Rattle.taxpolicy.specs.declared.stat.Stat.{Stat}
use Rattle.host_policy.specs.Samples.{IsSampledBy}
use Rattle.host_policy.proofs.Places.{done_more, left_more}
use Rattle.host_policy.proofs.state.sample_stats.Goals as goal

pub loop-g-preserved : goal.loop-g-preserved
loop-g-preserved c =
    let there : c.loop-g.g < length c.loop-g.stats = omega arith in
    let sampled : c.loop-g.g < length c.args.samples.now = omega arith in
    record {
      done = λ k sample s s' below.
          done_more (λ (j : ℕ) (x : Stat). IsSampledBy (get_or c.args.samples.now j sample) (get_or c.args.stats.now j s) x) c.loop-g.stats c.loop-g.g c.sampled.result there
          (λ j d h. c.loop-g.invariant.done j sample s d h)
          (let by : get_or c.args.samples.now c.loop-g.g c.index-samples-g.result ≡ get_or c.args.samples.now c.loop-g.g sample = get_or_default _ _ _ _ sampled in
          let was : get_or c.loop-g.stats c.loop-g.g c.index-stats-g.result ≡ get_or c.args.stats.now c.loop-g.g s = get_or_default _ _ _ _ there ∙ c.loop-g.invariant.left c.loop-g.g s (omega arith) in
          rw (← by, ← was) c.sampled.ensures)
          k s' below;
      left = left_more c.args.stats.now c.loop-g.stats c.loop-g.g c.sampled.result c.loop-g.invariant.left;
    }

pub returns : goal.returns
returns c = record { sampled = record { count = omega arith; each = λ g sample s s' below. c.loop-g.invariant.done g sample s s' (omega arith) } }
