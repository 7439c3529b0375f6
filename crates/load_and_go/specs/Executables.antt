-- What is read of the executable of a text.
use Rattle.std.specs.Prelude.{◌≡◌, ℕ, ◌+◌, ◌*◌, Bool, nat_lt, if◌then◌else◌, List, Option, Some, None}
use Rattle.std.specs.List.{list_any}
use Rattle.elf32.specs.declared.fault.Fault.{Fault}
use Rattle.elf32.specs.declared.fault.Fault.TheVariants.{Place}
use Rattle.elf32.specs.declared.image.Image.{Image}
use Rattle.elf32.specs.Faults.{first_fault}
use Rattle.elf32.specs.Files.{StandsFor}
use Rattle.masm.specs.Executables.{IsExecutableOf}
use Rattle.masm.specs.Listings.{Part, Listing, part_size}

-- an image that the text's executable stands for, for a machine with some pages
pub record IsReadFrom (text : List ℕ) (pages : ℕ) (image : Image) : Type 0 where
  pub file : List ℕ
  pub executable : IsExecutableOf text file
  pub stands : StandsFor file pages image

-- a part passes the end of a memory of some pages
abbrev pub passes : ℕ → Part → Bool
passes pages p = nat_lt (0x80000000 + 4096 * pages) (p.address + part_size p)

-- the fault that the executable of a listing has for a machine with some pages, if it has one
abbrev pub fault_of : ℕ → Listing → Option Fault
fault_of pages listing = if list_any (passes pages) listing.parts then Some Place else None

-- the text's executable is refused for a machine with some pages, and the fault is its first: a part passes their end
pub record IsRefusedFor (text : List ℕ) (pages : ℕ) (fault : Fault) : Type 0 where
  pub file : List ℕ
  pub executable : IsExecutableOf text file
  pub first : first_fault file pages ≡ Some fault
  pub past : fault_of pages executable.listing ≡ Some fault
