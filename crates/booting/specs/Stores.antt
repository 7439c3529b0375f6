-- What stays of a store, whatever is written to it and read from it.
use Rattle.std.specs.Prelude.{◌≡◌, ◌↔◌}
-- what a store is said to be: whether it is honest and true to digests, what it holds and gives, its slots and its failures
pub use Rattle.swapstore.specs.declared.store.SwapStore.{Ghosts as StoreFacts}

-- a store has as many slots as before, and is honest and true to digests where it was
pub record StoreStays {Kept : Type 0} (facts : StoreFacts Kept) (s s' : Kept) : Type 0 where
  pub slots : facts.slots s' ≡ facts.slots s
  pub honest : facts.honest s' ↔ facts.honest s
  pub true_to_digests : facts.true_to_digests s' ↔ facts.true_to_digests s
