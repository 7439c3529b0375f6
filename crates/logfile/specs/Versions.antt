-- Log files of both versions. One of version 1 is the log of a machine of the first profile (`Files`, `Faults`). One of version 2 has
-- another magic number, and behind it the number of the machine's profile; then it goes on as one of version 1 does behind its magic
-- number. So its fields, from the profile on, stand as those of a file of version 1 whose magic number is the profile.
use Rattle.std.specs.Prelude.{◌≡◌, ◌≢◌, ◌⊎◌, ℕ, ◌<◌, ◌≤◌, List, [], ◌∷◌, ◌++◌, length, take, drop, All}
use Rattle.std.specs.Int.{from_le_bytes, w32}
use Rattle.mips_cp0.specs.Profiles.{profile_numbers}
use Rattle.mips_cp0.specs.declared.profile.Profile.{Profile}
use Rattle.mips_cp0.specs.declared.profile.Profile.TheVariants.{One}
use Rattle.items.specs.declared.entry.Entry.{Entry}
use Rattle.logfile.specs.declared.fault.LogFault.{LogFault}
use Rattle.logfile.specs.declared.fault.LogFault.TheVariants as fault
use Rattle.logfile.specs.declared.fault.ReadError.{ReadError}
use Rattle.logfile.specs.declared.fault.ReadError.TheVariants as error
use Rattle.logfile.specs.FileItems.{word, body_bytes, IsFileEntry}
use Rattle.logfile.specs.Files.{HasHeader, HasEntries}
use Rattle.logfile.specs.Faults.{pages_in, digest_in, Fails}

-- `MVL2`
abbrev pub second_magic : List ℕ
second_magic = 0x4d ∷ 0x56 ∷ 0x4c ∷ 0x32 ∷ []

-- the file is one of version 2, and its fields
abbrev pub IsSecond : List ℕ → Type 0
IsSecond file = take 4 file ≡ second_magic

abbrev pub IsNotSecond : List ℕ → Type 0
IsNotSecond file = take 4 file ≢ second_magic

abbrev pub fields : List ℕ → List ℕ
fields file = drop 4 file

-- the number of the profile, and the profile of it
abbrev pub profile_in : List ℕ → ℕ
profile_in bytes = from_le_bytes w32 (take 4 bytes)

abbrev pub HasNumber : Profile → ℕ → Type 0
HasNumber profile number = (profile_numbers profile).number ≡ number

unfoldable pub field_bytes : Profile → ℕ → List ℕ → List ℕ
field_bytes profile pages digest = word (profile_numbers profile).number ++ word pages ++ digest

-- how many pages a machine of a profile can have
pub record IsPagesOf (profile : Profile) (pages : ℕ) : Type 0 where
  pub least : 2 ≤ pages
  pub most : pages ≤ (profile_numbers profile).most_pages

-- the fields are those of a machine of this profile that can have so many pages, and the image of this digest
pub record HasFields (block digest : List ℕ) (profile : Profile) (pages : ℕ) : Type 0 where
  pub bytes : take 40 block ≡ field_bytes profile pages digest
  pub whole : length digest ≡ 32
  pub range : IsPagesOf profile pages

-- a fact of a file by its version
abbrev pub ByVersion : (List ℕ → Type 0) → (List ℕ → Type 0) → List ℕ → Type 0
ByVersion First Second file = (IsNotSecond file × First file) ⊎ (IsSecond file × Second (fields file))

-- the file begins with the header of a machine of this profile that can have so many pages, and the image of this digest
abbrev pub HasHeaderAs : List ℕ → List ℕ → Profile → ℕ → Type 0
HasHeaderAs file digest profile pages =
    ByVersion (λ bytes. (profile ≡ One) × HasHeader bytes digest pages) (λ bytes. HasFields bytes digest profile pages) file

-- behind its header the file has these entries, each of them one item of the file, and nothing else
abbrev pub HasEntriesAs : List ℕ → List Entry → Type 0
HasEntriesAs file entries = ByVersion (λ bytes. HasEntries bytes entries) (λ bytes. HasEntries bytes entries) file

-- the file has a whole header
abbrev pub IsLong : List ℕ → Type 0
IsLong file = ByVersion (λ bytes. 40 ≤ length bytes) (λ bytes. 40 ≤ length bytes) file

-- the file is the header of version 2 and these entries, each of them one item of the file, and nothing else
pub record StandsForAs (file : List ℕ) (profile : Profile) (pages : ℕ) (digest : List ℕ) (entries : List Entry) : Type 0 where
  pub bytes : file ≡ second_magic ++ field_bytes profile pages digest ++ body_bytes entries
  pub whole : length digest ≡ 32
  pub each : All IsFileEntry entries

-- the order of the checks, which isn't that of their numbers: the profile is known before the pages are
abbrev pub rank_of : LogFault → ℕ
rank_of fault.Short = 1
rank_of fault.Profile = 2
rank_of fault.Header = 3
rank_of fault.Image = 4
rank_of fault.Body = 5

-- the fields of version 2 fail a check
abbrev pub FailsFields : LogFault → List ℕ → List ℕ → Type 0
FailsFields fault.Short bytes digest = length bytes < 40
FailsFields fault.Profile bytes digest = (profile : Profile) → ¬ HasNumber profile (profile_in bytes)
FailsFields fault.Header bytes digest = (profile : Profile) → HasNumber profile (profile_in bytes) → ¬ IsPagesOf profile (pages_in bytes)
FailsFields fault.Image bytes digest = digest_in bytes ≢ digest
FailsFields fault.Body bytes digest = (entries : List Entry) → ¬ HasEntries bytes entries

-- the first check that they fail
pub record IsFieldsFault (bytes digest : List ℕ) (fault : LogFault) : Type 0 where
  pub fails : FailsFields fault bytes digest
  pub first : (earlier : LogFault) → rank_of earlier < rank_of fault → ¬ FailsFields earlier bytes digest

-- the file fails a check, by its version
abbrev pub FailsAs : LogFault → List ℕ → List ℕ → Type 0
FailsAs fault file digest = ByVersion (λ bytes. Fails fault bytes digest) (λ bytes. FailsFields fault bytes digest) file

-- the first check that it fails
pub record IsFaultAs (file digest : List ℕ) (fault : LogFault) : Type 0 where
  pub fails : FailsAs fault file digest
  pub first : (earlier : LogFault) → rank_of earlier < rank_of fault → ¬ FailsAs earlier file digest

-- the entries aren't read for their fault, or memory was wanted
abbrev pub IsRefusalAs : List ℕ → ReadError → Type 0
IsRefusalAs file (error.Fault f) = (f ≡ fault.Body) × ((entries : List Entry) → ¬ HasEntriesAs file entries)
IsRefusalAs file error.Memory = Unit {0}
