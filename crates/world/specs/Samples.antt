-- What a sample of the pages of all guests does.
use Rattle.std.specs.Prelude.{◌≡◌, ℕ, ◌*◌, ◌<◌, List, None, length, map, slice_index_or}
use Rattle.std.proofs.Common.{lit≤}
use Rattle.world.specs.Below.{IsSampled, Stream, TenantIs, after_words}

-- A period of each guest's sample has ended, and the next one has begun: guest after guest, each with the generator's next hundred words.
pub record AreSampled (words : Stream) (old new : List TenantIs) : Type 0 where
  pub count : length new ≡ length old
  pub each : (g : ℕ) (t : TenantIs) → g < length old → IsSampled (after_words (100 * g) words) (slice_index_or old g t) (slice_index_or new g t)

-- all of a guest but the sample of its pages
abbrev pub without_sample : TenantIs → TenantIs
without_sample t = record t { sample = record { draws = None; active = 0; few = lit≤ tt } }

-- of the guests only the samples of their pages have changed
abbrev pub OnlySamplesChange : List TenantIs → List TenantIs → Type 0
OnlySamplesChange old new = map without_sample new ≡ map without_sample old

-- A sample has been taken of the pages of all guests, by the words of a generator, and nothing else of them has changed.
pub record IsSampling (old new : List TenantIs) : Type 0 where
  pub words : Stream
  pub sampled : AreSampled words old new
  pub beside : OnlySamplesChange old new
