-- Stores that stay.
use Rattle.std.proofs.Common.{◌≡◌, ap, subst, sym, ◌∙◌}
use Rattle.booting.specs.Stores.{StoreFacts, StoreStays}

pub store_same : {Store : Type 0} {facts : StoreFacts Store} {s s' : Store} → s' ≡ s → StoreStays facts s s'
store_same {facts = facts} same = record {
  slots = ap facts.slots same;
  honest = (subst facts.honest same, subst facts.honest (sym same));
  true_to_digests = (subst facts.true_to_digests same, subst facts.true_to_digests (sym same));
}

pub store_then : {Store : Type 0} {facts : StoreFacts Store} {s mid s' : Store}
    → StoreStays facts s mid → StoreStays facts mid s' → StoreStays facts s s'
store_then a b = record {
  slots = b.slots ∙ a.slots;
  honest = (λ now. a.honest.0 (b.honest.0 now), λ before. b.honest.1 (a.honest.1 before));
  true_to_digests = (λ now. a.true_to_digests.0 (b.true_to_digests.0 now), λ before. b.true_to_digests.1 (a.true_to_digests.1 before));
}
