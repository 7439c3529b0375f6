-- The store that comes back.
use Rattle.std.proofs.Common.{◌≡◌, ℕ, ◌∙◌}
use Rattle.booting.specs.Stores.{StoreFacts, StoreStays}
use Rattle.lent_pages.specs.Stores.{IsStill}

-- a store that is still as it was, with as many slots
pub store_back : {S : Type 0} (facts : StoreFacts S) (first last : S) (slots : ℕ) → IsStill facts.honest facts.true_to_digests first last → facts.slots last ≡ slots → slots ≡ facts.slots first → StoreStays facts first last
store_back facts first last slots still has were = record { slots = has ∙ were; honest = still.honest; true_to_digests = still.true_to_digests }
