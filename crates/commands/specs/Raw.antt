-- Images without a header, and how many pages a machine has.
use Rattle.std.specs.Prelude.{◌≡◌, ℕ, ◌<◌, ◌≤◌, List, [], ◌∷◌, length, map}
use Rattle.elf32.specs.declared.image.Image.{Image}
use Rattle.mips_cp0.specs.Profiles.{profile_numbers}
use Rattle.mips_cp0.specs.declared.profile.Profile.{Profile}

-- the limits of the number of pages of a machine of a profile
pub record IsPageCount (profile : Profile) (pages : ℕ) : Type 0 where
  pub least : 2 ≤ pages
  pub most : pages ≤ (profile_numbers profile).most_pages

-- a file of some bytes is a raw image for a memory of `room` bytes: it is not empty, and the memory holds it
pub record IsRaw (room length : ℕ) : Type 0 where
  pub least : 0 < length
  pub most : length ≤ room

-- the image of a file's bytes: they are one segment at 80000000, as long as the file, and it is entered there
pub record IsRawImage (all : List ℕ) (image : Image) : Type 0 where
  pub entry : image.entry ≡ 0x80000000
  pub addresses : map (λ s. s.address) image.segments.items ≡ 0x80000000 ∷ []
  pub bytes : map (λ s. s.bytes.items) image.segments.items ≡ all ∷ []
  pub sizes : map (λ s. s.size) image.segments.items ≡ length all ∷ []
