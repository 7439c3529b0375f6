-- Why a file isn't the log of a machine with the image of some digest. Each check is over the whole file.
use Rattle.std.specs.Prelude.{◌≡◌, ◌≢◌, ℕ, ◌<◌, ◌⊎◌, List, length, take, drop}
use Rattle.std.specs.Int.{from_le_bytes, w32}
use Rattle.items.specs.declared.entry.Entry.{Entry}
use Rattle.logfile.specs.declared.fault.LogFault.{LogFault}
use Rattle.logfile.specs.declared.fault.LogFault.TheVariants as fault
use Rattle.logfile.specs.declared.fault.ReadError.{ReadError}
use Rattle.logfile.specs.declared.fault.ReadError.TheVariants as error
use Rattle.logfile.specs.Files.{magic, HasEntries}

abbrev pub number_of : LogFault → ℕ
number_of fault.Short = 1
number_of fault.Header = 2
number_of fault.Image = 3
number_of fault.Body = 4
number_of fault.Profile = 6

-- the fields of the header
abbrev pub magic_in : List ℕ → List ℕ
magic_in file = take 4 file

abbrev pub pages_in : List ℕ → ℕ
pages_in file = from_le_bytes w32 (take 4 (drop 4 file))

abbrev pub digest_in : List ℕ → List ℕ
digest_in file = take 32 (drop 8 file)

-- the file fails a check: it has no whole header; it has another magic number, or pages that no machine has; it has the
-- digest of another image; or behind the header are bytes that no list of entries has. A file of version 1 names no profile
abbrev pub Fails : LogFault → List ℕ → List ℕ → Type 0
Fails fault.Short file digest = length file < 40
Fails fault.Header file digest = (magic_in file ≢ magic) ⊎ (pages_in file < 2) ⊎ (16384 < pages_in file)
Fails fault.Image file digest = digest_in file ≢ digest
Fails fault.Body file digest = (entries : List Entry) → ¬ HasEntries file entries
Fails fault.Profile file digest = ⊥

-- the first check that it fails
pub record IsFault (file digest : List ℕ) (fault : LogFault) : Type 0 where
  pub fails : Fails fault file digest
  pub first : (earlier : LogFault) → number_of earlier < number_of fault → ¬ Fails earlier file digest

-- the entries aren't read for their fault, or memory was wanted
abbrev pub IsRefusal : List ℕ → ReadError → Type 0
IsRefusal file (error.Fault f) = (f ≡ fault.Body) × ((entries : List Entry) → ¬ HasEntries file entries)
IsRefusal file error.Memory = Unit {0}
