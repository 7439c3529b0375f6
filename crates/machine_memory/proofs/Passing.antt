-- Passes that take and put.
use Rattle.std.proofs.Common.{◌≡◌, ℕ, ap, ◌∙◌}
use Rattle.shared_pool.specs.declared.hand.Hand.{Hand}
use Rattle.shared_pool.specs.Pools.{PassIs}
use Rattle.shared_pool.specs.Balance.{hand_put, hand_taken}
use Rattle.machine_memory.specs.Memories.{MemoryIs, IsPassOf}

module _ {Store : Type 0} (m : MemoryIs Store) (p p' : PassIs) (is : IsPassOf m p) where
  pub pass_with : (h : Hand) → p' ≡ record p { hand = h } → h.of ≡ p.hand.of → h.whole ≡ p.hand.whole → IsPassOf m p'
  pass_with h e of whole = record {
    pool = ap (λ (q : PassIs). q.pool) e ∙ is.pool;
    ledger = ap (λ (q : PassIs). q.hand.of) e ∙ (of ∙ is.ledger);
    whole = ap (λ (q : PassIs). q.hand.whole) e ∙ (whole ∙ is.whole);
  }

  pub pass_taken : (number : ℕ) → p' ≡ record p { hand = hand_taken p.hand number } → IsPassOf m p'
  pass_taken number e = record {
    pool = ap (λ (q : PassIs). q.pool) e ∙ is.pool;
    ledger = ap (λ (q : PassIs). q.hand.of) e ∙ is.ledger;
    whole = ap (λ (q : PassIs). q.hand.whole) e ∙ is.whole;
  }

  pub pass_put : (number : ℕ) → p' ≡ record p { hand = hand_put p.hand number } → IsPassOf m p'
  pass_put number e = record {
    pool = ap (λ (q : PassIs). q.pool) e ∙ is.pool;
    ledger = ap (λ (q : PassIs). q.hand.of) e ∙ is.ledger;
    whole = ap (λ (q : PassIs). q.hand.whole) e ∙ is.whole;
  }
