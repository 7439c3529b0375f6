use Rattle.std.proofs.Common.{◌≡◌, ◌<◌, ◌≤◌, ℕ, slice_index_or}
use Rattle.taxpolicy.specs.declared.stat.Stat.{Stat}
use Rattle.sampling.specs.declared.sample.Sample.{Sample}
use Rattle.host_policy.specs.Samples.{IsSampledBy}
use Rattle.host_policy.proofs.state.sample_stats.Given as goal

abbrev pub invariant-loop-g : goal.invariant-loop-g
invariant-loop-g l = record {
  done : (k : ℕ) (sample : Sample) (s s' : Stat) → k < l.g → IsSampledBy (slice_index_or l.samples k sample) (slice_index_or l.initial.stats k s) (slice_index_or l.stats k s');
  left : (k : ℕ) (s : Stat) → l.g ≤ k → slice_index_or l.stats k s ≡ slice_index_or l.initial.stats k s;
}
