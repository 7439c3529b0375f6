-- Stores that stay while guests come and go.
use Rattle.std.proofs.Common.{◌≡◌, ℕ, sym, subst, ◌∙◌}
use Rattle.lent_pages.specs.Stores.{IsStill}
use Rattle.booting.specs.Stores.{StoreFacts, StoreStays}

-- a store that comes back from a memory, of as many slots
pub stays_still : {Store : Type 0} (facts : StoreFacts Store) (slots : ℕ) (first now : Store) → slots ≡ facts.slots first → facts.slots now ≡ slots
    → IsStill facts.honest facts.true_to_digests first now → StoreStays facts first now
stays_still facts slots first now as_first as_now still = record {
  slots = as_now ∙ as_first;
  honest = still.honest;
  true_to_digests = still.true_to_digests;
}

pub stays_on : {Store : Type 0} (facts : StoreFacts Store) (s mid s' : Store) → StoreStays facts s mid → StoreStays facts mid s' → StoreStays facts s s'
stays_on facts s mid s' a b = record {
  slots = b.slots ∙ a.slots;
  honest = (λ now. a.honest.0 (b.honest.0 now), λ before. b.honest.1 (a.honest.1 before));
  true_to_digests = (λ now. a.true_to_digests.0 (b.true_to_digests.0 now), λ before. b.true_to_digests.1 (a.true_to_digests.1 before));
}

pub stays_as : {Store : Type 0} (facts : StoreFacts Store) (s mid s' : Store) → s' ≡ mid → StoreStays facts s mid → StoreStays facts s s'
stays_as facts s mid s' same stays = subst (StoreStays facts s) (sym same) stays

pub stays_from : {Store : Type 0} (facts : StoreFacts Store) (first s s' : Store) → first ≡ s → StoreStays facts first s' → StoreStays facts s s'
stays_from facts first s s' same stays = subst (λ (x : _). StoreStays facts x s') same stays
