-- The executables of texts.
use Rattle.std.specs.Prelude.{ℕ, List}
use Rattle.elf32.specs.Files.{StandsFor}
use Rattle.elf32.specs.declared.image.Image.{Image}
use Rattle.masm.specs.Assembly.{Means}
use Rattle.masm.specs.Images.{IsImageOf}
use Rattle.masm.specs.Listings.{Listing}

-- the file stands for an image of the listing that the text means, for a machine with the 131072 pages that kseg0 reaches
pub record IsExecutableOf (text file : List ℕ) : Type 0 where
  pub listing : Listing
  pub image : Image
  pub means : Means text listing
  pub assembled : IsImageOf listing image
  pub written : StandsFor file 131072 image
