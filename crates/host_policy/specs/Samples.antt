-- What the policy knows of guests by the samples of their pages.
use Rattle.std.specs.Prelude.{◌≡◌, ℕ, ◌<◌, List, length, slice_index_or}
use Rattle.taxpolicy.specs.declared.stat.Stat.{Stat}
use Rattle.sampling.specs.declared.sample.Sample.{Sample}

-- a guest's numbers, with what a sample of its pages says
pub record IsSampledBy (sample : Sample) (s s' : Stat) : Type 0 where
  pub shares : s'.shares ≡ s.shares
  pub pages : s'.pages ≡ s.pages
  pub resident : s'.resident ≡ s.resident
  pub given : s'.given ≡ s.given
  pub minimum : s'.minimum ≡ s.minimum
  pub active : s'.active ≡ sample.active
  pub sample_is : s'.sample ≡ 100

-- the numbers of each guest, with what the sample of its pages says
pub record AreSampledBy (samples : List Sample) (stats stats' : List Stat) : Type 0 where
  pub count : length stats' ≡ length stats
  pub each : (g : ℕ) (sample : Sample) (s s' : Stat) → g < length stats → IsSampledBy (slice_index_or samples g sample) (slice_index_or stats g s) (slice_index_or stats' g s')
