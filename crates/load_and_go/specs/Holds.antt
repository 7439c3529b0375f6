-- What it is that a machine holds a listing.
use Rattle.std.specs.Prelude.{◌≡◌, ℕ, ◌+◌, List, [], ◌∷◌, Some, All}
use Rattle.machine.specs.Step.{Machine}
use Rattle.machine.specs.Replies.{bytes_at}
use Rattle.masm.specs.Meanings.{Content, item_size}
use Rattle.masm.specs.Images.{StandFor}
use Rattle.masm.specs.Listings.{Listing}

-- what is read of a machine's memory from a virtual address on, as a debugger reads, stands for an item: a word that decodes
-- to the instruction, or the bytes themselves
abbrev pub HoldsItem : Machine → ℕ → Content → Type 0
HoldsItem m address item = (bytes : List ℕ) × (bytes_at m address (item_size item) ≡ Some bytes) × StandFor bytes item

-- the same of items, one after the other
abbrev pub HoldsFrom : Machine → ℕ → List Content → Type 0
HoldsFrom m address [] = Unit {0}
HoldsFrom m address (item ∷ items) = HoldsItem m address item × HoldsFrom m (address + item_size item) items

-- memory at each listed address decodes to the listed instruction or holds the listed bytes, and PC is the listing's entry
pub record Holds (m : Machine) (listing : Listing) : Type 0 where
  pub parts : All (λ p. HoldsFrom m p.address p.items) listing.parts
  pub entry : m.cpu.pc ≡ listing.entry
