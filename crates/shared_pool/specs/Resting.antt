-- What is seen of a free frame that waits.
use Rattle.std.specs.Prelude.{ℕ}
use Rattle.ledger.specs.Shares.{LedgerId}

pub record RestingIs : Type 0 where
  pub number : ℕ
  -- the ledger of its account
  pub ledger : LedgerId

abbrev pub resting_is : ℕ → LedgerId → RestingIs
resting_is number ledger = record { number = number; ledger = ledger }
