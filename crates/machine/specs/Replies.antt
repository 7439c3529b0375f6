-- What a machine replies to a debugger.
use Rattle.std.specs.Prelude.{◌≡◌, ◌≢◌, ◌<◌, ℕ, zero, suc, ◌+◌, ◌%◌, ◌^◌, nat_lt, if◌then◌else◌, List, [], ◌∷◌, ◌++◌, length, slice_index, Option, Some, None}
use Rattle.mips_tlb.specs.Translation.{probed}
use Rattle.word32.specs.Pages.{page_number}
use Rattle.mips_tlb.specs.declared.kind.Kind.TheVariants.{Load, Store}
use Rattle.machine.specs.declared.access.Why.TheVariants.{Swapped}
use Rattle.machine.specs.Bus.{Lacks}
use Rattle.machine.specs.Step.{Machine}

-- a physical address, where it lies in memory
abbrev pub in_memory : List ℕ → Option ℕ → Option ℕ
in_memory memory None = None
in_memory memory (Some at) = if nat_lt at (length memory) then Some at else None

-- where in memory a virtual address leads, by a load of kernel mode, whatever mode runs
abbrev pub probe : Machine → ℕ → Option ℕ
probe m address = in_memory m.board.memory (probed m.cpu.tlb m.cpu.cp0 address)

-- the byte at a place of memory, if there is a place
abbrev pub byte_in : List ℕ → Option ℕ → Option ℕ
byte_in memory None = None
byte_in memory (Some at) = Some (slice_index memory at)

-- the byte that is read at a virtual address
abbrev pub byte_at : Machine → ℕ → Option ℕ
byte_at m address = byte_in m.board.memory (probe m address)

-- bytes and one more after them, if all have a place
abbrev pub with_next : Option (List ℕ) → Option ℕ → Option (List ℕ)
with_next None byte = None
with_next (Some bytes) None = None
with_next (Some bytes) (Some byte) = Some (bytes ++ byte ∷ [])

-- the bytes that are read from a virtual address on, byte k at the address + k modulo 2^32; none where one of them has no
-- place in memory
abbrev pub bytes_at : Machine → ℕ → ℕ → Option (List ℕ)
bytes_at m address zero = Some []
bytes_at m address (suc k) = with_next (bytes_at m address k) (byte_at m ((address + k) % 2 ^ 32))

-- something holds of each place that bytes from an address on have
abbrev pub EachPlace : Machine → ℕ → ℕ → (ℕ → Type 0) → Type 0
EachPlace m address count P = (k at : ℕ) → k < count → probe m ((address + k) % 2 ^ 32) ≡ Some at → P at

-- one of the bytes from an address on lies in a page
abbrev pub SomePlaceIn : Machine → ℕ → ℕ → ℕ → Type 0
SomePlaceIn m address count page = (k : ℕ) × (at : ℕ) × (k < count) × (probe m ((address + k) % 2 ^ 32) ≡ Some at) × (page_number at ≡ page)

-- a debugger can look at a place unless its page is swapped out
abbrev pub CanLook : Lacks → ℕ → Type 0
CanLook lacks at = lacks (page_number at) Load ≢ Some Swapped

-- and store there where its page is there for stores
abbrev pub CanStore : Lacks → ℕ → Type 0
CanStore lacks at = lacks (page_number at) Store ≡ None
