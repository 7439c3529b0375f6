-- What was last written to slots, before and after a call.
use Rattle.std.specs.Prelude.{◌≡◌, ℕ, List, Option, Some}
use Rattle.sha2.specs.Sha256.{sha256}

-- the bytes are what was last written to a slot, if that is known
abbrev pub AreHeld : Option (List ℕ) → List ℕ → Type 0
AreHeld held bytes = (last : List ℕ) → held ≡ Some last → bytes ≡ last

-- the bytes are what was last written to a slot, if that is known, or they have another SHA-256
abbrev pub AreHeldByDigest : Option (List ℕ) → List ℕ → Type 0
AreHeldByDigest held bytes = (last : List ℕ) → held ≡ Some last → sha256 bytes ≡ sha256 last → bytes ≡ last

-- what was last written to each slot is as it was
abbrev pub AllStay : (ℕ → Option (List ℕ)) → (ℕ → Option (List ℕ)) → Type 0
AllStay old new = (slot : ℕ) → new slot ≡ old slot

-- what was last written to each slot but one is as it was
abbrev pub OthersStay : ℕ → (ℕ → Option (List ℕ)) → (ℕ → Option (List ℕ)) → Type 0
OthersStay slot old new = (other : ℕ) → (other ≡ slot → ⊥) → new other ≡ old other
