-- What is seen of a store in memory, and of damage.
use Rattle.std.specs.Prelude.{◌≡◌, ℕ, ◌<◌, ◌^◌, ◌-◌, List, [], ◌++◌, replicate, Bool, true, false, length, slice_index, slice_index_or, slice_set}
use Rattle.std.specs.Int.{w8, bit_not}
use Rattle.sha2.specs.Sha256.{sha256}
use Rattle.word32.specs.Zeros.{zeros}

-- a page of a store in memory
pub record StoredIs : Type 0 where
  -- the bytes that lie there
  pub lies : List ℕ
  -- the bytes that were last written
  pub last : List ℕ

pub record MemoryIs : Type 0 where
  -- the page of each slot
  pub pages : List StoredIs
  -- some byte was damaged
  pub damaged : Bool
  -- by some damage a page had other bytes than were last written, of the same SHA-256
  pub forged : Bool

-- a page where these bytes were last written, and lie
abbrev pub whole : List ℕ → StoredIs
whole bytes = record { lies = bytes; last = bytes }

-- the pages of so many slots, of which these are the first, and the rest zeros
abbrev pub with_untouched : List StoredIs → ℕ → List StoredIs
with_untouched pages slots = pages ++ replicate (slots - length pages) (whole (zeros 4096))

-- the page of a slot
abbrev pub stored_at : List StoredIs → ℕ → StoredIs
stored_at pages slot = slice_index_or pages slot (whole [])

-- where other bytes lie than were last written, they have another SHA-256
abbrev pub IsTold : StoredIs → Type 0
IsTold page = sha256 page.lies ≡ sha256 page.last → page.lies ≡ page.last

-- no damage forged a page
abbrev pub AreTold : MemoryIs → Type 0
AreTold store = store.damaged ≡ true → store.forged ≡ false

-- nor does it where there was none
pub sound_are_told : (store : MemoryIs) → store.damaged ≡ false → AreTold store
sound_are_told store sound = λ damaged. absurd (cc)

-- while no byte was damaged, what was last written lies there; while no page was forged, other bytes have another SHA-256
pub record IsMemory (pages : List StoredIs) (damaged forged : Bool) : Type 0 where
  pub count : length pages < 2 ^ 32
  pub undamaged : damaged ≡ false → (slot : ℕ) → (stored_at pages slot).lies ≡ (stored_at pages slot).last
  pub told : forged ≡ false → (slot : ℕ) → IsTold (stored_at pages slot)
  pub sound : damaged ≡ false → forged ≡ false

-- a page with all bits of the byte at a place inverted
abbrev pub with_inverted : List ℕ → ℕ → List ℕ
with_inverted page at = slice_set page at (bit_not w8 (slice_index page at))

-- what may be read is what might have been read before, with that byte inverted
abbrev pub Inverts : ℕ → (List ℕ → Type 0) → (List ℕ → Type 0) → Type 0
Inverts byte old new = (bytes : List ℕ) → new bytes → (before : List ℕ) × old before × (bytes ≡ with_inverted before byte)
