-- Which log a file stands for: a header of the magic number, the pages of the machine and the SHA-256 digest of its image
-- file, and the items behind it.
use Rattle.std.specs.Prelude.{◌≡◌, ℕ, ◌≤◌, List, [], ◌∷◌, ◌++◌, length, take, drop, All}
use Rattle.items.specs.declared.entry.Entry.{Entry}
use Rattle.logfile.specs.FileItems.{word, body_bytes, IsFileEntry}

-- `MVL1`
abbrev pub magic : List ℕ
magic = 0x4d ∷ 0x56 ∷ 0x4c ∷ 0x31 ∷ []

unfoldable pub header_bytes : ℕ → List ℕ → List ℕ
header_bytes pages digest = magic ++ word pages ++ digest

-- how many pages a machine can have
pub record IsPages (pages : ℕ) : Type 0 where
  pub least : 2 ≤ pages
  pub most : pages ≤ 16384

-- the file begins with the header of a machine that can have so many pages, and the image of this digest
pub record HasHeader (file digest : List ℕ) (pages : ℕ) : Type 0 where
  pub bytes : take 40 file ≡ header_bytes pages digest
  pub whole : length digest ≡ 32
  pub range : IsPages pages

-- behind its header the file has these entries, each of them one item of the file, and nothing else
pub record HasEntries (file : List ℕ) (entries : List Entry) : Type 0 where
  pub bytes : drop 40 file ≡ body_bytes entries
  pub each : All IsFileEntry entries

-- the file is the header and these entries, each of them one item of the file, and nothing else
pub record StandsFor (file : List ℕ) (pages : ℕ) (digest : List ℕ) (entries : List Entry) : Type 0 where
  pub bytes : file ≡ header_bytes pages digest ++ body_bytes entries
  pub whole : length digest ≡ 32
  pub each : All IsFileEntry entries
